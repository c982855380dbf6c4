-- The numbers of refusals (01, "Refused because of the input"). There is no 6 (02, [3]).
use Rattle.std.specs.Prelude.{ℕ}
use Rattle.refusal.specs.declared.Fault.{Fault}
use Rattle.refusal.specs.declared.Fault.TheVariants.{Short, Header, Count, Length, Name, Absent, Repeated, Circle, LongText, BadListing, ShortChart, LongFlat, LongListing, WrongListing, LongPage, LongSheet, ShortSummary, Form, NoLine, WrongPair}

abbrev pub number_of : Fault → ℕ
number_of Short = 1
number_of Header = 2
number_of Count = 3
number_of Length = 4
number_of Name = 5
number_of Absent = 7
number_of Repeated = 8
number_of Circle = 9
number_of LongText = 10
number_of BadListing = 11
number_of ShortChart = 20
number_of LongFlat = 21
number_of LongListing = 22
number_of WrongListing = 23
number_of LongPage = 24
number_of LongSheet = 25
number_of ShortSummary = 26
number_of Form = 27
number_of NoLine = 28
number_of WrongPair = 29
