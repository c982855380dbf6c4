-- Laws of checking a listing.
pub mod TreeLaws
pub mod WalkLaws
pub mod EndLaws
pub mod BadListingLaws
pub mod ReadingLaws
pub mod RefusedLaws
