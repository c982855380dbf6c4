-- What is proved, on a page.
pub mod Theorems
