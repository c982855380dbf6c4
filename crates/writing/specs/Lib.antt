-- What the contracts of writing cite.
pub mod Put
pub mod Bytes
pub mod Numeral
pub mod Digits
pub mod Answer
