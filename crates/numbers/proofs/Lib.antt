-- Laws of the numbers of a listing and their bytes.
pub mod NumbersLaws
pub mod WrittenLaws
