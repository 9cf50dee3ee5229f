-- What a reader must believe: the names of the units of time, and how long each is.
pub mod Units
