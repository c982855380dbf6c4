-- Laws of the character classes.
pub mod BitLaws
pub mod BitsLaws
pub mod RunLaws
pub mod SeekLaws
pub mod SameSetLaws
pub mod SpansLaws
pub mod BytesLaws
