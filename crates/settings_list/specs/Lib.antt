pub mod List
pub mod ShotLists
