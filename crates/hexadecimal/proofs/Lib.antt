mod Reading
mod Shown
