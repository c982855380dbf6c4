-- What the contracts of the written form cite.
pub mod Ccg
pub mod Text
pub mod Written
pub mod Named
pub mod Tables
