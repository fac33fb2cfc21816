-- ShotLists: by what the lists of a shot call with settings are refused. Assumes nothing.
pub mod ShotLists
