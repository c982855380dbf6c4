-- Laws of character class grammars, the tables that hold them and their written form.
pub mod CcgLaws
pub mod TerminalLaws
pub mod TextLaws
pub mod TablesLaws
pub mod LineLaws
pub mod RunPutLaws
pub mod TextUniqueLaws
pub mod WrittenLaws
pub mod NamedLaws
pub mod ListingLaws
