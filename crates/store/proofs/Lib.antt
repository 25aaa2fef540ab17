pub mod Rooms
pub mod Cuts
pub mod LeafRecords
