-- Laws of the grammar's bytes.
pub mod FormedLaws
pub mod ArgumentLaws
pub mod EqualLaws
pub mod SameFrontLaws
pub mod TurnedLaws
pub mod RisenLaws
