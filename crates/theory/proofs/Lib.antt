-- Laws of parse trees and of counting them.
pub mod TreeLaws
pub mod SpellsLaws
pub mod SoundLaws
pub mod ClosedLaws
pub mod CountLaws
pub mod SplitLaws
pub mod AroundLaws
pub mod PathsLaws
