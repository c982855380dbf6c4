-- Laws of the levels.
pub mod LevelsLaws
