pub mod Fitting
pub mod Written
