pub mod Stores
pub mod Tables
pub mod LeafRecords
pub mod Images
