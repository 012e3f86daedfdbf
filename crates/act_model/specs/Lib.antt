pub mod Placing
pub mod Storing
pub mod Relinking
pub mod Modifying
