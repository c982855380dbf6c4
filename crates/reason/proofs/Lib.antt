-- Laws of the question for the reason.
pub mod SideLaws
pub mod LineLaws
pub mod ReasonLaws
pub mod ExactlyLaws
