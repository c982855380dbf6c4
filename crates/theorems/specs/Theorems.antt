-- What is proved, on a page. Each statement stands under the sentence of the user's that it answers; `proofs/Theorems.antt` proves each by citing a law.
--
-- A list holds what a lent slice holds: b the bytes of a grammar (the user's book), w a text (a line), chart₀ and l₀ the chart and the buffer for a listing
-- before a call, chart and l afterwards. The contracts of the operations, none of which asks anything of its input, say that
--     priority::check_grammar      answers  checked b
--     question::conflict           answers  conflict_answer b p i q
--     reason::reason               answers some r and leaves some chain with  Reasoned b p i q chain₀ r chain
--     flatten::write_flat          answers  flat_answer b (how long its buffer is), and leaves there  buffer_after
--     parse::parse                 answers some r and leaves some chart and l with  Outcome b w chart₀ l₀ r chart l
--     listing::check_listing       answers  listing_answer b w l
--     compare::compare             answers some r with  Compared b w first second r
--     page::write_page             answers some r and leaves some page with  PageOutcome b w l page₀ r page
--     page::text_under             hands back some part of the text with  TextUnder b w l index part
--     sheet::read_sheet            answers some r and leaves some chart and summary with  SheetOutcome b s chart₀ summary₀ r chart summary
--     sheet::next_line             gives some r and leaves its walker at some next, and some chart, with  StepOutcome b s start chart₀ r next chart
--     archive::parse_flat          answers some r and leaves some chart and l with  FlatOutcome flat roots w chart₀ l₀ r chart l
--     load::check_flat             answers some r with  Checked flat r
-- A call that is proved ends.
--
-- Words. A tree (theory/specs/Tree) is a character or a production (rule) with a list of trees; `yield` is what it spells and `listing` its numbers, a
-- production's number, 258 + p, before its arguments'. `Built b x t`: t is a tree of the grammar at argument byte x, conflicts (clashes) let through
-- (flatten/specs/Trees); `Conflict b p i q`: production q as argument i of p is a pattern of Definition 2.6 (priority/specs/Conflict); `ConflictFree`: no subtree's root
-- has one. `Reading b w t`: t is built at the start sort, has no conflict and spells w (flatten/specs/Reading); `EntryList b w p d i j f`: f has such trees for the first
-- d arguments of p, and they spell w from i to j. `Generated g cc t`: t is a tree of the character class grammar g (a list of lines) in the class cc (ccg/specs/Ccg).
-- `Listed b w l t`: t is the reading of w whose listing l is (page/specs/Answer); `rows 0 0 t`: for each number of its listing depth, number, start and end
-- (rows/specs/Rows). `uses l`: how often each production's number stands in the listing l (compare/specs/Uses); `Lower b m n`: what has the uses m is below what has the uses n
-- (order/specs/Order). `LineBy b w chart₀ v chart`: the line w is read, has summary byte v, and leaves the chart so; `InTurn`: lines are read in turn, the chart handed on
-- (sheet/specs/Outcome). `Only P t`: P holds of t and of nothing else; `Two P`: of two different things; `Counts P v`: of none, one or two, as v is 0, 1 or 2 (theory/specs/Counts).
use Rattle.std.specs.Prelude.{ℕ, ◌+◌, ◌*◌, ◌/◌, ◌%◌, ◌≤◌, ◌<◌, ◌≡◌, Bool, false, true, ◌&&◌, List, [], ◌∷◌, ◌++◌, map, ◌↔◌, ◌⊎◌, leb, ltb, eqb, pos, neg_ℤ, length, get_or, take, drop, cond, Result, Ok, Err, Option, Some, None as Nothing}
use Rattle.std.proofs.Math.Seq.{slice}
use Rattle.ccg.specs.Ccg.{Class, Line, OwnNumbers, Generated}
use Rattle.flatten.specs.Flat.{flat_class, flat_grammar_in, flat_grammar, plain_class}
use Rattle.ccg.specs.Named.{grammar_numbers}
use Rattle.ccg.specs.Text.{grammar_text}
use Rattle.flatten.specs.Answer.{flat_answer}
use Rattle.flatten.specs.Tables.{FlatTables}
use Rattle.flatten.specs.Trees.{Built, ConflictFree, Apart}
use Rattle.flatten.specs.Visser.{visser_grammar, completed_grammar, SingleHigher}
use Rattle.ccg.specs.Written.{WrittenForm}
use Rattle.charset.specs.Set.{characters, has, spans}
use Rattle.chart.specs.Counted.{entry_of}
use Rattle.chart.specs.Layout.{text_limit, chart_bytes}
use Rattle.compare.specs.Answer.{CompareAnswer, Compared}
use Rattle.compare.specs.Refusals.{ComparisonRefused}
use Rattle.compare.specs.Uses.{uses, tree_uses}
use Rattle.classes.specs.Classes.{class_has, SomeRangeHas, SetOf, same_class}
use Rattle.common.specs.Below.{all_below, any_below}
use Rattle.archive.specs.Outcome.{line_arity, trees_of, FlatOutcome, LowestRoot, AllThere}
use Rattle.ccg.specs.Tables.{table_grammar}
use Rattle.common.specs.Lists.{tabulate, All}
use Rattle.engine.specs.Outcome.{Parsing}
use Rattle.engine.specs.declared.Answer.{Answer}
use Rattle.form.specs.Corners.{corner, StopsThere, corners}
use Rattle.form.specs.Form.{Writable, Says, NotInForm}
use Rattle.load.specs.Absent.{Names, FirstNamed}
use Rattle.load.specs.Check.{Checked, Loaded}
use Rattle.engine.specs.declared.Answer.TheVariants.{None, One, Several, Refused as NotRead}
use Rattle.numbers.specs.Written.{bytes_of}
use Rattle.grammar.specs.Check.{outside, short_header, bad_header, short_contents, bad_argument_counts, bad_range_counts, bad_length, bad_productions, is_group, bad_declaration, bad_declarations, same_production, repeated_productions}
use Rattle.grammar.specs.Equal.{OneProduction}
use Rattle.grammar.specs.Turned.{TurnedRound, RangesRise, risen}
use Rattle.refusal.specs.Fault.{number_of}
use Rattle.refusal.specs.Verdict.{Verdict, accepted, refusal, refused, RefusedBy, refuse_if, first_refusal, in_order}
use Rattle.refusal.specs.declared.Fault.TheVariants.{Absent, Repeated, LongText, BadListing, ShortChart, LongFlat, LongListing, WrongListing, LongPage, LongSheet, ShortSummary, Form, NoLine}
use Rattle.refusal.specs.declared.Refusal.{Refusal}
use Rattle.layout.specs.Layout.{productions, classes, declarations, start_sort, argument_count, range_count, production_at, result_sort, argument, range_at, low, high, declaration_at, kind, first, second}
use Rattle.layout.specs.Limits.{production_limit, class_base, pair_kind_limit}
use Rattle.listing.specs.Answer.{byte_limit, listing_answer}
use Rattle.numbers.specs.Numbers.{numbers_of}
use Rattle.listing.specs.declared.Judgement.TheVariants.{Right, Wrong}
use Rattle.marked.specs.Cases.{Promised, table}
use Rattle.order.specs.Order.{Uses, Lower, EqualCounts, OrderIs, order_number, swapped}
use Rattle.order.specs.declared.Order.{Order}
use Rattle.order.specs.declared.Order.TheVariants.{Below, Equal}
use Rattle.page.specs.Answer.{Listed, page_answer, PageOutcome, RowUnder, TextUnder}
use Rattle.lines.specs.Read.{ReadBack}
use Rattle.parse.specs.Outcome.{needed, reading_by, Outcome}
use Rattle.flatten.specs.Reading.{ReadingIn, EntryListIn, Reading, EntryList}
use Rattle.priority.specs.Check.{circles_in, circles, checked}
use Rattle.priority.specs.Conflict.{ConflictIn, Conflict}
use Rattle.question.specs.Answer.{There, conflict_answer}
use Rattle.priority.specs.Priorities.{Kind, left, right, nonassoc, kind_number, either_way, covers, declared_in, HigherIn, declaration_of, declarations_of, declared, Higher, PriorityDeclaration}
use Rattle.priority.specs.declared.Declaration.{Declaration}
use Rattle.priority.specs.Spelled.{IsOfTwo, spelled_out, spelled_grammar}
use Rattle.priority.specs.Refusals.{Holds, First}
use Rattle.reason.specs.Reason.{Asked, LowestLine, LowestDeclaration, Reasoned}
use Rattle.reason.specs.declared.Cause.{Cause}
use Rattle.reason.specs.declared.Cause.TheVariants.{Higher as ByChain, AtFirst, AtLast}
use Rattle.rows.specs.Rows.{no_row, rows}
use Rattle.rows.specs.Under.{Stands}
use Rattle.rows.specs.declared.Row.{Row}
use Rattle.shortest.specs.Chain.{Leads, Shortest}
use Rattle.shortest.specs.Written.{chain_after}
use Rattle.split.specs.Joined.{joined_lines, NoFeed, ended}
use Rattle.split.specs.Lines.{lines, line_at}
use Rattle.sheet.specs.Outcome.{byte_of, LineBy, InTurn, Step, SheetOutcome, StepOutcome}
use Rattle.sheet.specs.Walk.{Steps, given}
use Rattle.tables.specs.Layout.{slot, takes_char}
use Rattle.theory.specs.Counts.{Only, Two, Counts}
use Rattle.writing.specs.Answer.{buffer_after}
use Rattle.writing.specs.Digits.{Plain, numerals_in}
use Rattle.writing.specs.Numeral.{digit_zero, numeral, value_of}
use Rattle.theory.specs.Tree.{Tree, leaf, node, Forest, production_number, yield, listing, Subtree}

-- The numbers of a list are bytes, as those of a slice are.
abbrev pub Bytes : List ℕ → Type 0
Bytes l = (k : ℕ) → get_or l k 0 < characters

-- ---- 1. "For every book, line and lent table the software ends with an answer, and it does these things itself: it finds a bad book, an overlong line or a short
-- table; it names the refusal by number and place; it leaves the lent tables as the paper states for that number."

-- A grammar is accepted exactly if no line of the table of refusals holds (Holds: a constructor to a line).
abbrev pub AcceptedExactly : Type 0
AcceptedExactly = (b : List ℕ) → (checked b ≡ accepted) ↔ ((stage number place : ℕ) → Holds b stage number place → ⊥)

-- A refusal (refusal/specs/Verdict) is a fault, which has a number (refusal/specs/Fault), and a place. `RefusedBy v number place`: v is a refusal, with this number and place.

-- It is refused exactly by the first line that holds: the paper's order of lines, and in one stage the lowest place.
abbrev pub RefusedExactly : Type 0
RefusedExactly = (b : List ℕ) (number place : ℕ) → RefusedBy (checked b) number place ↔ First b number place

-- Does production q conflict as argument i of p? Yes, no, and 7 with place 0 if one of them isn't there, for every b, p, i and q; no refusal comes but this and
-- the grammar's.
pub record ConflictExactly (b : List ℕ) (p i q : ℕ) : Type 0 where
  pub yes : (conflict_answer b p i q ≡ Ok true) ↔ ((checked b ≡ accepted) × There b p i q × Conflict b p i q)
  pub no : (conflict_answer b p i q ≡ Ok false) ↔ ((checked b ≡ accepted) × There b p i q × (Conflict b p i q → ⊥))
  pub absent : (conflict_answer b p i q ≡ refused Absent 0) ↔ ((checked b ≡ accepted) × (There b p i q → ⊥))
  pub refused : (x : Refusal) → (conflict_answer b p i q ≡ Err x) ↔ ((checked b ≡ Err x) ⊎ ((checked b ≡ accepted) × (There b p i q → ⊥) × (x ≡ refusal Absent 0)))

-- The text of the character class grammar (flat book) is written exactly if it fits the buffer, which held out₀, and else refused with 21 and its length; the buffer
-- then starts with the text, or is unchanged. For every b and out₀.
pub record FlatExactly (b out₀ : List ℕ) : Type 0 where
  pub fits : (n : ℕ) → (flat_answer b (length out₀) ≡ Ok n) ↔ ((checked b ≡ accepted) × (n ≡ length (grammar_text (flat_grammar b))) × (n ≤ length out₀))
  pub too_long : (k : ℕ) → (flat_answer b (length out₀) ≡ refused LongFlat k) ↔ ((checked b ≡ accepted) × (k ≡ length (grammar_text (flat_grammar b))) × (length out₀ < k))
  pub grammar : (x : Refusal) → number_of x.fault ≤ 9 → (flat_answer b (length out₀) ≡ Err x) ↔ (checked b ≡ Err x)
  pub written : (n : ℕ) (text : List ℕ) → buffer_after (Ok n) text out₀ ≡ text ++ drop (length text) out₀
  pub unwritten : (x : Refusal) (text : List ℕ) → buffer_after (Err x) text out₀ ≡ out₀

-- Reading a text is refused with 1 to 9, 10 and 20 exactly so, and by these refusals nothing is changed.
pub record ReadingRefused (b w chart₀ l₀ : List ℕ) (r : Answer Refusal) (chart l : List ℕ) : Type 0 where
  pub grammar : (x : Refusal) → number_of x.fault ≤ 9 → (r ≡ NotRead x) ↔ (checked b ≡ Err x)
  pub ten : (k : ℕ) → (r ≡ NotRead (refusal LongText k)) ↔ ((checked b ≡ accepted) × (text_limit < length w) × (k ≡ length w))
  pub twenty : (k : ℕ) → (r ≡ NotRead (refusal ShortChart k)) ↔ ((checked b ≡ accepted) × (length w ≤ text_limit) × (k ≡ needed b (length w)) × (length chart₀ < k))
  pub unchanged : (x : Refusal) → (number_of x.fault ≡ 22 → ⊥) → r ≡ NotRead x → (chart ≡ chart₀) × (l ≡ l₀)

abbrev pub Refuses : Type 0
Refuses = (b w chart₀ l₀ : List ℕ) (r : Answer Refusal) (chart l : List ℕ) → Outcome b w chart₀ l₀ r chart l → ReadingRefused b w chart₀ l₀ r chart l

-- What was lent determines the answer and every byte afterwards.
abbrev pub OneOutcome : Type 0
OneOutcome =
    (b w chart₀ l₀ : List ℕ) (r r' : Answer Refusal) (chart chart' l l' : List ℕ)
    → Outcome b w chart₀ l₀ r chart l → Outcome b w chart₀ l₀ r' chart' l' → (r ≡ r') × (chart ≡ chart') × (l ≡ l')

-- A listing is found right exactly if it is that of a reading and nothing is refused; the refusals come exactly so. For every w and l, and every b of bytes.
pub record ListingExactly (b w l : List ℕ) : Type 0 where
  pub right : (listing_answer b w l ≡ Ok Right) ↔ ((checked b ≡ accepted) × (length w ≤ text_limit) × (length l % 2 ≡ 0) × (length l ≤ byte_limit) × ((t : Tree) × Reading b w t × (listing t ≡ numbers_of l)))
  pub grammar : (x : Refusal) → number_of x.fault ≤ 9 → (listing_answer b w l ≡ Err x) ↔ (checked b ≡ Err x)
  pub ten : (k : ℕ) → (listing_answer b w l ≡ refused LongText k) ↔ ((checked b ≡ accepted) × (text_limit < length w) × (k ≡ length w))
  pub eleven : (k : ℕ) → (listing_answer b w l ≡ refused BadListing k) ↔ ((checked b ≡ accepted) × (length w ≤ text_limit) × ((length l % 2 ≡ 1) ⊎ (byte_limit < length l)) × (k ≡ length l))

-- What reading answered with one is found right, if it isn't too long to be checked.
abbrev pub OneIsRight : Type 0
OneIsRight =
    (b : List ℕ) → Bytes b → (w chart₀ l₀ : List ℕ) (n : ℕ) (chart l : List ℕ)
    → Outcome b w chart₀ l₀ (One n) chart l → 2 * n ≤ byte_limit → listing_answer b w (take (2 * n) l) ≡ Ok Right

-- ---- 2. "The flat book is the one that Visser's 'From Context-free Grammars with Priorities to Character Class Grammars' defines from the book. Each tree of the
-- book without a clash is a tree of the flat book under the same rules, and each tree of the flat book is such a tree of the book."

-- The declarations of an accepted grammar are a priority declaration (Definition 2.5).
abbrev pub Declares : Type 0
Declares = (b : List ℕ) → checked b ≡ accepted → PriorityDeclaration b

-- Algorithm 4.1 gives the flat grammar, unless a production of one argument is higher than one that fits it: there the algorithm takes out nothing and
-- Definition 2.6, which decides, has a conflict. With M taken out there too it always does.
abbrev pub FlatIsVisser : Type 0
FlatIsVisser = (b : List ℕ) → Bytes b → checked b ≡ accepted → (flat_grammar b ≡ visser_grammar b) ↔ (SingleHigher b → ⊥)

abbrev pub FlatIsCompleted : Type 0
FlatIsCompleted = (b : List ℕ) → Bytes b → checked b ≡ accepted → flat_grammar b ≡ completed_grammar b

-- The trees of the flat grammar, in any class, are those built at their root's result without a conflict; in the class of an argument, also without one there.
abbrev pub FlatTrees : Type 0
FlatTrees =
    (b : List ℕ) → Bytes b → checked b ≡ accepted → (cc : Class) (p : ℕ) (f : Forest)
    → Generated (flat_grammar b) cc (node p f) ↔ ((cc (production_number p) ≡ true) × Built b (result_sort b p) (node p f) × ConflictFree b (node p f))

abbrev pub FlatArguments : Type 0
FlatArguments =
    (b : List ℕ) → Bytes b → checked b ≡ accepted → (p i : ℕ) (t : Tree)
    → Generated (flat_grammar b) (flat_class b p i) t ↔ (Built b (argument b p i) t × ConflictFree b t × Apart b p i t)

-- So the readings of a text are the trees of the flat grammar, in the class of the start sort's productions, that spell it.
abbrev pub ReadingsAreFlat : Type 0
ReadingsAreFlat =
    (b : List ℕ) → Bytes b → checked b ≡ accepted → (w : List ℕ) (t : Tree)
    → Reading b w t ↔ (Generated (flat_grammar b) (plain_class b (start_sort b)) t × (yield t ≡ w))

-- ---- 3. "For every accepted book, however its rules loop or vanish, every line within the limit, every chart long enough and every listing buffer, whatever chart and
-- buffer held before: 'none' comes back exactly when no reading of any size exists, 'several' exactly when two different ones do, and 'one' exactly when there is a
-- single reading and its listing fits. The length that comes back is then that listing's, and the buffer starts with that listing, whole. Refusal for length comes
-- exactly when there is a single reading and its listing doesn't fit, and no other answer comes."

-- A `Parsing` (engine/specs/Outcome) says which trees are the readings of a text of `size` characters, and which lists of trees each entry of the chart counts, for `count`
-- productions with so many arguments each: for a grammar `reading_by b w`, with `Reading b w` and `EntryList b w`; for a flat text `trees_of` (request 7).
pub record ReadExactly (s : Parsing) (chart₀ l₀ : List ℕ) (r : Answer Refusal) (chart l : List ℕ) : Type 0 where
  pub none : (r ≡ None) ↔ ((t : Tree) → s.parse t → ⊥)
  pub several : (r ≡ Several) ↔ Two s.parse
  pub one : (n : ℕ) → (r ≡ One n) ↔ ((t : Tree) × Only s.parse t × (n ≡ length (listing t)) × (2 * n ≤ length l₀))
  pub too_long : (k : ℕ) → (r ≡ NotRead (refusal LongListing k)) ↔ ((t : Tree) × Only s.parse t × (length l₀ < 2 * length (listing t)) × (k ≡ length l₀ / 2))
  pub no_other : (x : Refusal) → r ≡ NotRead x → x.fault ≡ LongListing
  pub unwritten : ((t : Tree) → s.parse t → ⊥) ⊎ Two s.parse → l ≡ l₀
  pub whole : (t : Tree) → Only s.parse t → 2 * length (listing t) ≤ length l₀ → l ≡ bytes_of (listing t) ++ drop (length (bytes_of (listing t))) l₀
  pub front : (t : Tree) → Only s.parse t → length l₀ < 2 * length (listing t)
      → let numbers = take (length l₀ / 2) (listing t) in l ≡ bytes_of numbers ++ drop (length (bytes_of numbers)) l₀
  -- the chart starts with a count for each production p, count d of its arguments, start i and end j; what lies beyond stays
  pub chart_counts : (entries : List ℕ) × (length entries ≡ chart_bytes s.arity s.count s.size) × (chart ≡ entries ++ drop (length entries) chart₀)
      × ((p d i j : ℕ) → p < s.count → d ≤ s.arity p → i ≤ j → j ≤ s.size → Counts (s.entry p d i j) (entry_of s.arity s.size entries p d i j))

abbrev pub Read : Type 0
Read =
    (b w chart₀ l₀ : List ℕ) (r : Answer Refusal) (chart l : List ℕ) → Outcome b w chart₀ l₀ r chart l
    → checked b ≡ accepted → length w ≤ text_limit → needed b (length w) ≤ length chart₀ → ReadExactly (reading_by b w) chart₀ l₀ r chart l

-- ---- "I need it over trees and not over a search, because what comes next is lodging flat books without our software, and a later reader must find what we found."

-- A text says one grammar: the flat grammars that it can say (line p ends in 258 + p, each class has only characters or only production numbers) are known by it.
abbrev pub TextDetermines : Type 0
TextDetermines = (g h : List Line) → WrittenForm g → WrittenForm h → grammar_text g ≡ grammar_text h → g ≡ h

-- Whoever has a flat grammar whose text is the one lodged, and the numbers of the start sort, finds exactly the readings of every text.
abbrev pub Archived : Type 0
Archived =
    (b : List ℕ) → Bytes b → checked b ≡ accepted → (g : List Line) → WrittenForm g → grammar_text g ≡ grammar_text (flat_grammar b)
    → (top : Class) → ((n : ℕ) → top n ≡ plain_class b (start_sort b) n) → (w : List ℕ) (t : Tree) → (Generated g top t × (yield t ≡ w)) ↔ Reading b w t

-- There is one: the flat grammar itself is in that form.
abbrev pub FlatIsWritten : Type 0
FlatIsWritten = (b : List ℕ) → Bytes b → checked b ≡ accepted → WrittenForm (flat_grammar b)

-- ---- Request 1. "For a book, text and listing we want a page of 73 bytes a number: …" "The text under a number is that part of the lent text, handed back and not
-- copied, and other callers may have it too."

-- A listing determines its tree, by every character class grammar whose lines have their own numbers.
abbrev pub ListingDetermines : Type 0
ListingDetermines =
    (g : List Line) → OwnNumbers g → (cc dd : Class) (t u : Tree) → Generated g cc t → Generated g dd u → listing t ≡ listing u → t ≡ u

-- So a listing that is right is that of one reading.
abbrev pub OneListed : Type 0
OneListed = (b : List ℕ) → Bytes b → (w l : List ℕ) → listing_answer b w l ≡ Ok Right → (t u : Tree) → Listed b w l t → Listed b w l u → t ≡ u

-- The page is written exactly if the listing is right and 73 bytes a number fit; else 24 and these bytes, 23 and the index, or what checking the listing refuses.
pub record PageExactly (b w l : List ℕ) (room : ℕ) : Type 0 where
  pub written : (n : ℕ) → (page_answer b w l room ≡ Ok n) ↔ ((listing_answer b w l ≡ Ok Right) × (n ≡ 73 * length (numbers_of l)) × (n ≤ room))
  pub too_long : (k : ℕ) → (page_answer b w l room ≡ refused LongPage k) ↔ ((listing_answer b w l ≡ Ok Right) × (k ≡ 73 * length (numbers_of l)) × (room < k))
  pub wrong : (k : ℕ) → (page_answer b w l room ≡ refused WrongListing k) ↔ (listing_answer b w l ≡ Ok (Wrong k))
  pub refused : (x : Refusal) → number_of x.fault ≤ 11 → (page_answer b w l room ≡ Err x) ↔ (listing_answer b w l ≡ Err x)
  pub no_other : (x : Refusal) → page_answer b w l room ≡ Err x → (number_of x.fault ≤ 11) ⊎ ((number_of x.fault ≡ 23) ⊎ (number_of x.fault ≡ 24))

-- What was lent determines the answer and every byte of the buffer; by a refusal none is changed.
pub record OnePage (b w l page₀ : List ℕ) (r : Result ℕ Refusal) (page : List ℕ) : Type 0 where
  pub answer : r ≡ page_answer b w l (length page₀)
  pub one : (r' : Result ℕ Refusal) (page' : List ℕ) → PageOutcome b w l page₀ r' page' → (r ≡ r') × (page ≡ page')
  pub unchanged : (x : Refusal) → r ≡ Err x → page ≡ page₀

-- A page that was written is that of the reading listed: each line can be read back (depth, number, start and end are the values of their columns), and where its row
-- says that the text stands, a subtree does whose listing begins at that number. Beyond the page the buffer is what it was.
pub record PageSays (b w l page₀ page : List ℕ) : Type 0 where
  pub tree : Tree
  pub listed : Listed b w l tree
  pub number : (k : ℕ) → k < length (numbers_of l) → (get_or (rows 0 0 tree) k no_row).number ≡ get_or (numbers_of l) k 0
  pub line : (k : ℕ) → k < length (numbers_of l) → ReadBack w (get_or (rows 0 0 tree) k no_row) (slice (73 * k) (73 * (k + 1)) page)
  pub stands : (k : ℕ) → k < length (numbers_of l) → Stands tree k (get_or (rows 0 0 tree) k no_row)
  pub beyond : drop (73 * length (numbers_of l)) page ≡ drop (73 * length (numbers_of l)) page₀

abbrev pub Pages : Type 0
Pages =
    (b : List ℕ) → Bytes b → (w l page₀ : List ℕ) (r : Result ℕ Refusal) (page : List ℕ) → PageOutcome b w l page₀ r page
    → OnePage b w l page₀ r page × ((n : ℕ) → r ≡ Ok n → PageSays b w l page₀ page)

-- The part handed back is what the subtree spells whose listing begins at that number, in the reading listed; if the listing isn't right or has no such number, it is
-- the empty one at the text's start. Where it starts and ends is determined, and so are its bytes.
pub record PartSays (b w l : List ℕ) (index : ℕ) (part : List ℕ) : Type 0 where
  pub one : (part' : List ℕ) → TextUnder b w l index part' → part ≡ part'
  pub place : (r : Row) → RowUnder b w l index r → part ≡ slice r.start r.end w
  pub one_place : (r r' : Row) → RowUnder b w l index r → RowUnder b w l index r' → r ≡ r'
  pub spells : listing_answer b w l ≡ Ok Right → (t : Tree) → Listed b w l t → index < length (numbers_of l)
      → (s : Tree) × Subtree s t × ((others : List ℕ) × (drop index (numbers_of l) ≡ listing s ++ others)) × (part ≡ yield s)
  pub none : (listing_answer b w l ≡ Ok Right → length (numbers_of l) ≤ index) → (r : Row) → RowUnder b w l index r → (r.start ≡ 0) × (r.end ≡ 0)

abbrev pub Parts : Type 0
Parts = (b : List ℕ) → Bytes b → (w l : List ℕ) (index : ℕ) (part : List ℕ) → TextUnder b w l index part → PartSays b w l index part

-- ---- Request 2. "Kinds 5, 6 and 7 say left, right and not together of every two rules from the first named to the second, ends included, a rule with itself too. A book
-- with groups has the same clashes as the book with each pair spelled out, even where that list of declarations runs past 255, and that is how flat books of such
-- books are judged."

-- With kind k the declaration covers every two productions from its first to its second, and with another kind none.
pub record SaysOfGroup (l : Declaration) (k : Kind) : Type 0 where
  pub pairs : (x y : ℕ) → (covers l k x y ≡ true) ↔ ((l.first ≤ x) × (x ≤ l.second) × (l.first ≤ y) × (y ≤ l.second))
  pub only : (other : Kind) (x y : ℕ) → covers l other x y ≡ true → other ≡ k

pub record GroupsSay (l : Declaration) : Type 0 where
  pub five : l.kind ≡ 5 → SaysOfGroup l left
  pub six : l.kind ≡ 6 → SaysOfGroup l right
  pub seven : l.kind ≡ 7 → SaysOfGroup l nonassoc

-- `spelled_out` (priority/specs/Spelled) leaves no group in a list of declarations, and changes nothing in one that has none; a group of n productions becomes
-- n (n + 1) / 2 declarations, so one of nine becomes forty-five.
pub record Spells (ls : List Declaration) : Type 0 where
  pub none : All IsOfTwo (spelled_out ls)
  pub same : All IsOfTwo ls → spelled_out ls ≡ ls
  pub many : (kind first n : ℕ) → is_group kind ≡ true → 2 * length (spelled_out (record { kind = kind; first = first; second = first + n } ∷ [])) ≡ (n + 1) * (n + 2)

-- Spelled out, the declarations of every b declare the same pairs, however many they are, and so decide the same: the closed priorities, refusal 9, the conflicts, the
-- flat grammar, the readings and what the chart counts. So what is stated above of a grammar is stated of it with each pair spelled out.
pub record SpelledOut (b : List ℕ) (ls : List Declaration) : Type 0 where
  pub pairs : (k : Kind) (x y : ℕ) → declared_in ls k x y ≡ declared b k x y
  pub higher : (x y : ℕ) → HigherIn ls x y ↔ Higher b x y
  pub circle : circles_in b ls ≡ circles b
  pub conflict : (p i q : ℕ) → ConflictIn b ls p i q ↔ Conflict b p i q
  pub flat : flat_grammar_in b ls ≡ flat_grammar b
  pub reading : (w : List ℕ) (t : Tree) → ReadingIn b ls w t ↔ Reading b w t
  pub entries : (w : List ℕ) (p d i j : ℕ) (f : Forest) → EntryListIn b ls w p d i j f ↔ EntryList b w p d i j f

abbrev pub GroupsAreTheirPairs : Type 0
GroupsAreTheirPairs = (b : List ℕ) → SpelledOut b (spelled_out (declarations_of b))

-- The book with each pair spelled out (`spelled_grammar`, beside `spelled_out`): the grammar's own numbers, but for the count of declarations and these themselves.
-- It is accepted, has no group, and has the same conflicts, flat grammar and readings; it is a grammar of bytes if it has at most 255 declarations.
pub record SpelledSame (b : List ℕ) : Type 0 where
  pub accepted : checked (spelled_grammar b) ≡ accepted
  pub no_group : (d : ℕ) → d < declarations (spelled_grammar b) → is_group (kind (spelled_grammar b) d) ≡ false
  pub conflict : (p i q : ℕ) → There b p i q → Conflict (spelled_grammar b) p i q ↔ Conflict b p i q
  pub flat : flat_grammar (spelled_grammar b) ≡ flat_grammar b
  pub reading : (w : List ℕ) (t : Tree) → Reading (spelled_grammar b) w t ↔ Reading b w t
  pub bytes : Bytes b → length (spelled_out (declarations_of b)) ≤ 255 → Bytes (spelled_grammar b)

abbrev pub SpelledBooks : Type 0
SpelledBooks = (b : List ℕ) → checked b ≡ accepted → SpelledSame b

-- A declaration of two productions covers what it did before there were groups, and refusal 7 judges it as it did. (No other definition knows of kinds.)
pub record AsBefore (b : List ℕ) (d : ℕ) : Type 0 where
  pub covered : (k : Kind) (x y : ℕ)
      → (covers (declaration_of b d) k x y ≡ true)
      ↔ ((kind b d ≡ kind_number k) × (((first b d ≡ x) × (second b d ≡ y)) ⊎ ((either_way k ≡ true) × (first b d ≡ y) × (second b d ≡ x))))
  pub seven : bad_declaration b d ≡ in_order
      (refuse_if (outside 1 pair_kind_limit (kind b d)) Absent (declaration_at b d)
      ∷ refuse_if (leb (productions b) (first b d)) Absent (declaration_at b d + 1)
      ∷ refuse_if (leb (productions b) (second b d)) Absent (declaration_at b d + 2)
      ∷ [])

abbrev pub PairsAsBefore : Type 0
PairsAsBefore = (b : List ℕ) (d : ℕ) → is_group (kind b d) ≡ false → AsBefore b d

-- ---- Request 3. "A range with low above high now means the same characters as the range turned round. Whoever builds a class must hold to that: checks, normal forms,
-- flat books, readings. (Refusal 6 no longer occurs.)"

-- `spans low high` (charset/specs/Set) says which characters a range has, and nothing else does: those between its ends, whichever of them is the lower.
pub record RangesSay (low high c : ℕ) : Type 0 where
  pub rising : low ≤ high → (spans low high c ≡ true) ↔ ((low ≤ c) × (c ≤ high))
  pub falling : high ≤ low → (spans low high c ≡ true) ↔ ((high ≤ c) × (c ≤ low))
  pub turned : spans low high c ≡ spans high low c

-- Whatever b and c hold, if c is b with any of its ranges turned round (`TurnedRound`, grammar/specs/Turned), then with c every operation does what it does with b: the
-- same verdict with its place, conflicts, flat grammar and so its text byte for byte, readings, answers, charts, listings, pages, summaries and steps.
pub record TurnedSame (b c : List ℕ) : Type 0 where
  pub check : checked c ≡ checked b
  pub conflict : (p i q : ℕ) → There b p i q → Conflict c p i q ↔ Conflict b p i q
  pub question : (p i q : ℕ) → conflict_answer c p i q ≡ conflict_answer b p i q
  pub flat : flat_grammar c ≡ flat_grammar b
  pub written : (room : ℕ) → flat_answer c room ≡ flat_answer b room
  pub reading : (w : List ℕ) (t : Tree) → Reading c w t ↔ Reading b w t
  pub outcome : (w chart₀ l₀ : List ℕ) (r : Answer Refusal) (chart l : List ℕ) → Outcome c w chart₀ l₀ r chart l ↔ Outcome b w chart₀ l₀ r chart l
  pub listing : (w l : List ℕ) → listing_answer c w l ≡ listing_answer b w l
  pub compare : (w l m : List ℕ) (r : CompareAnswer) → Compared c w l m r ↔ Compared b w l m r
  pub page : (w l page₀ : List ℕ) (r : Result ℕ Refusal) (page : List ℕ) → PageOutcome c w l page₀ r page ↔ PageOutcome b w l page₀ r page
  pub row : (w l : List ℕ) (index : ℕ) (r : Row) → RowUnder c w l index r ↔ RowUnder b w l index r
  pub part : (w l : List ℕ) (index : ℕ) (part : List ℕ) → TextUnder c w l index part ↔ TextUnder b w l index part
  pub sheet : (s chart₀ m₀ : List ℕ) (r : Result ℕ Refusal) (chart m : List ℕ) → SheetOutcome c s chart₀ m₀ r chart m ↔ SheetOutcome b s chart₀ m₀ r chart m
  pub step : (s : List ℕ) (start : ℕ) (chart₀ : List ℕ) (r : Step) (next : ℕ) (chart : List ℕ) → StepOutcome c s start chart₀ r next chart ↔ StepOutcome b s start chart₀ r next chart

abbrev pub TurnedRangesSame : Type 0
TurnedRangesSame = (b c : List ℕ) → TurnedRound b c → TurnedSame b c

-- An accepted grammar with each range that falls turned round (`risen`, beside `TurnedRound`) is such a grammar, and its ranges rise. So each promise about a grammar with
-- downward ranges is one about a grammar without them.
pub record Rises (b : List ℕ) : Type 0 where
  pub turned : TurnedRound b (risen b)
  pub rise : RangesRise (risen b)
  pub bytes : Bytes b → Bytes (risen b)

abbrev pub RangesCanRise : Type 0
RangesCanRise = (b : List ℕ) → checked b ≡ accepted → Rises b

-- Of a grammar whose ranges rise nothing has changed by this request: a class has the characters that it had, and the grammar is judged as it was while 6 stood between 5
-- and 7. There is no fault with number 6 now; `six` stands for what refusal 6 was, whatever that is.
abbrev pub former_six : (six : ℕ → Refusal) → List ℕ → Verdict
former_six six b = first_refusal (classes b) (λ k. first_refusal (range_count b k) (λ r. cond (ltb (high b k r) (low b k r)) (Err (six (range_at b k r))) accepted))

pub record RisingAsBefore (b : List ℕ) : Type 0 where
  pub class : (k c : ℕ) → k < classes b → (class_has b k c ≡ true) ↔ ((r : ℕ) × (r < range_count b k) × (low b k r ≤ c) × (c ≤ high b k r))
  pub judged : (six : ℕ → Refusal) → checked b ≡ in_order
      (short_header b
      ∷ bad_header b
      ∷ short_contents b
      ∷ bad_argument_counts b
      ∷ bad_range_counts b
      ∷ bad_length b
      ∷ bad_productions b
      ∷ former_six six b
      ∷ bad_declarations b
      ∷ repeated_productions b
      ∷ circles b
      ∷ [])

abbrev pub RisingRangesAsBefore : Type 0
RisingRangesAsBefore = (b : List ℕ) → RangesRise b → RisingAsBefore b

-- No operation answers with 6.
pub record NeverSix (b : List ℕ) (k : ℕ) : Type 0 where
  pub check : RefusedBy (checked b) 6 k → ⊥
  pub question : (p i q : ℕ) → RefusedBy (conflict_answer b p i q) 6 k → ⊥
  pub flat : (room : ℕ) → RefusedBy (flat_answer b room) 6 k → ⊥
  pub reading : (w chart₀ l₀ : List ℕ) (r : Answer Refusal) (chart l : List ℕ) → Outcome b w chart₀ l₀ r chart l → (x : Refusal) → r ≡ NotRead x → number_of x.fault ≡ 6 → ⊥
  pub listing : (w l : List ℕ) → RefusedBy (listing_answer b w l) 6 k → ⊥
  pub compare : (w l m : List ℕ) (r : CompareAnswer) → Compared b w l m r → RefusedBy r 6 k → ⊥
  pub page : (w l : List ℕ) (room : ℕ) → RefusedBy (page_answer b w l room) 6 k → ⊥
  pub sheet : (s chart₀ m₀ : List ℕ) (r : Result ℕ Refusal) (chart m : List ℕ) → SheetOutcome b s chart₀ m₀ r chart m → RefusedBy r 6 k → ⊥
  pub step : (s : List ℕ) (start : ℕ) (chart₀ : List ℕ) (r : Step) (next : ℕ) (chart : List ℕ) → StepOutcome b s start chart₀ r next chart → RefusedBy r 6 k → ⊥

-- ---- Request 4. "A sheet is lines ended by byte 10, which is no part of them; what follows the last one is a line too if it isn't empty. Each line is read from its own
-- part of the sheet." "The count of lines comes back." "The chart ends as it would if each line had been read alone in turn, a refused line leaving it unchanged; summary
-- bytes beyond the lines stay."

-- The lines of a sheet (`lines`, split/specs/Lines): no line feed is part of one, and each ended by one they are the sheet, up to a last line feed (`ended`,
-- split/specs/Joined). No other lines are these.
pub record LinesSay (s : List ℕ) : Type 0 where
  pub joined : joined_lines (lines s) ≡ ended s
  pub no_feed : All NoFeed (lines s)
  pub only : (ws : List (List ℕ)) → All NoFeed ws → joined_lines ws ≡ ended s → ws ≡ lines s

-- What reads a sheet refuses more than 65,535 bytes, with 25 and how many there are.
abbrev pub TooLong : {A : Type 0} → (b s : List ℕ) → Result A Refusal → Type 0
TooLong b s r = (k : ℕ) → (r ≡ refused LongSheet k) ↔ ((checked b ≡ accepted) × (65535 < length s) × (k ≡ length s))

-- A sheet is refused with 1 to 9, 25 and 26 exactly so, with no other number, and then nothing is changed. Otherwise the count of lines comes back. What was lent
-- determines the answer and every byte of the chart and the summary.
pub record SheetExactly (b s chart₀ m₀ : List ℕ) (r : Result ℕ Refusal) (chart m : List ℕ) : Type 0 where
  pub grammar : (x : Refusal) → number_of x.fault ≤ 9 → (r ≡ Err x) ↔ (checked b ≡ Err x)
  pub too_long : TooLong b s r
  pub too_short : (k : ℕ) → (r ≡ refused ShortSummary k) ↔ (((checked b ≡ accepted) × (length s ≤ 65535)) × (length m₀ < length (lines s)) × (k ≡ length (lines s)))
  pub no_other : (x : Refusal) → r ≡ Err x → (number_of x.fault ≤ 9) ⊎ ((number_of x.fault ≡ 25) ⊎ (number_of x.fault ≡ 26))
  pub unchanged : (x : Refusal) → r ≡ Err x → (chart ≡ chart₀) × (m ≡ m₀)
  pub count : (n : ℕ) → r ≡ Ok n → n ≡ length (lines s)
  pub in_turn : (n : ℕ) → r ≡ Ok n → InTurn (LineBy b) (lines s) chart₀ (take n m) chart
  pub beyond : (n : ℕ) → r ≡ Ok n → drop n m ≡ drop n m₀
  pub one : (r' : Result ℕ Refusal) (chart' m' : List ℕ) → SheetOutcome b s chart₀ m₀ r' chart' m' → (r ≡ r') × (chart ≡ chart') × (m ≡ m')

abbrev pub Sheets : Type 0
Sheets = (b s chart₀ m₀ : List ℕ) (r : Result ℕ Refusal) (chart m : List ℕ) → SheetOutcome b s chart₀ m₀ r chart m → SheetExactly b s chart₀ m₀ r chart m

-- "0 none, 1 one, 2 several, 3 refused. Only refusals 10 and 20 can fall on a line": a line's byte is that of the answer of reading it alone, whatever buffer is lent for
-- a listing (`byte_of`, sheet/specs/Outcome; one whose listing doesn't fit there, 22, is one), and its chart is that reading's.
pub record LineAlone (v : ℕ) (chart : List ℕ) (r : Answer Refusal) (chart' : List ℕ) : Type 0 where
  pub byte : v ≡ byte_of r
  pub chart_same : chart ≡ chart'
  pub numbers : (x : Refusal) → r ≡ NotRead x → (number_of x.fault ≡ 10) ⊎ ((number_of x.fault ≡ 20) ⊎ (number_of x.fault ≡ 22))

abbrev pub LinesAlone : Type 0
LinesAlone =
    (b : List ℕ) → checked b ≡ accepted → (w chart₀ : List ℕ) (v : ℕ) (chart : List ℕ) → LineBy b w chart₀ v chart
    → (l₀ : List ℕ) (r : Answer Refusal) (chart' l : List ℕ) → Outcome b w chart₀ l₀ r chart' l → LineAlone v chart r chart'

-- "No line is left once the start is at or past the sheet's end; a start inside a line takes its rest as the line; refused for the book or by 25, it stays where it is."
-- A step is refused, or gives no line, exactly so, and then the walker stays where it is and the chart as it was. Otherwise the line from the start on is read, and the
-- others start behind it. What was lent determines all of it.
pub record StepExactly (b s : List ℕ) (start : ℕ) (chart₀ : List ℕ) (r : Step) (next : ℕ) (chart : List ℕ) : Type 0 where
  pub grammar : (x : Refusal) → number_of x.fault ≤ 9 → (r ≡ Err x) ↔ (checked b ≡ Err x)
  pub too_long : (k : ℕ) → (r ≡ refused LongSheet k) ↔ ((checked b ≡ accepted) × (65535 < length s) × (k ≡ length s))
  pub no_other : (x : Refusal) → r ≡ Err x → (number_of x.fault ≤ 9) ⊎ (number_of x.fault ≡ 25)
  pub end : (r ≡ Ok Nothing) ↔ (((checked b ≡ accepted) × (length s ≤ 65535)) × (length s ≤ start))
  pub stays : ((v : ℕ) → r ≡ Ok (Some v) → ⊥) → (next ≡ start) × (chart ≡ chart₀)
  pub line : (v : ℕ) → r ≡ Ok (Some v) → LineBy b (line_at s start) chart₀ v chart
  pub others : (v : ℕ) → r ≡ Ok (Some v) → (lines (drop start s) ≡ line_at s start ∷ lines (drop next s)) × (start < next) × (next ≤ length s)
  pub one : (r' : Step) (next' : ℕ) (chart' : List ℕ) → StepOutcome b s start chart₀ r' next' chart' → (r ≡ r') × (next ≡ next') × (chart ≡ chart')

abbrev pub EachStep : Type 0
EachStep = (b s : List ℕ) (start : ℕ) (chart₀ : List ℕ) (r : Step) (next : ℕ) (chart : List ℕ) → StepOutcome b s start chart₀ r next chart → StepExactly b s start chart₀ r next chart

-- "Giving at each step, where it began at 0 and has a chart as long, what the whole-sheet call gives for that line": however many steps a walker takes from 0, with the
-- chart that the sheet was read with, they give the summary's bytes in turn and then no line, forever (`given`, sheet/specs/Walk); after each of them the chart is that of as
-- many lines read in turn, and so in the end that of the sheet.
pub record WalksDown (b s chart₀ summary chart : List ℕ) (rs : List Step) (chart' : List ℕ) : Type 0 where
  pub gives : rs ≡ given (length rs) summary
  pub in_turn : InTurn (LineBy b) (take (length rs) (lines s)) chart₀ (take (length rs) summary) chart'
  pub whole : length summary ≤ length rs → chart' ≡ chart

abbrev pub WalkersGoDown : Type 0
WalkersGoDown =
    (b s chart₀ m₀ : List ℕ) (n : ℕ) (chart m : List ℕ) → SheetOutcome b s chart₀ m₀ (Ok n) chart m
    → (rs : List Step) (next : ℕ) (chart' : List ℕ) → Steps b s 0 chart₀ rs next chart' → WalksDown b s chart₀ (take n m) chart rs chart'

-- ---- Request 5. "In the source a grammar is a set of rules, so two rules are equal when results are equal and each argument is the same sort or the same set of
-- characters. A user who gets 'several' then has truly different readings: the listings of any two of them first part at two rules of one result that are not equal."

-- Productions are equal by the test of refusal 8 exactly if they are one production (grammar/specs/Equal): one result, as many arguments, and each argument is the same byte,
-- or both are classes with the same characters, classes with no character too.
abbrev pub EqualExactly : Type 0
EqualExactly = (b : List ℕ) (p q : ℕ) → (same_production b p q ≡ true) ↔ OneProduction b p q

-- Listings l and m are the same up to an index, where `same` ends. There l has production p and m has production q, of one result and not equal.
pub record PartAt (b l m same : List ℕ) (p q : ℕ) : Type 0 where
  pub own : (rest : List ℕ) × (l ≡ same ++ production_number p ∷ rest)
  pub other : (rest : List ℕ) × (m ≡ same ++ production_number q ∷ rest)
  pub there : (p < productions b) × (q < productions b)
  pub one_result : result_sort b p ≡ result_sort b q
  pub not_equal : same_production b p q ≡ false

abbrev pub Part : List ℕ → List ℕ → List ℕ → Type 0
Part b l m = (same : List ℕ) × (p : ℕ) × (q : ℕ) × PartAt b l m same p q

-- The listings of any two readings part so, whatever their size.
abbrev pub ReadingsPart : Type 0
ReadingsPart = (b : List ℕ) → checked b ≡ accepted → (w : List ℕ) (t u : Tree) → Reading b w t → Reading b w u → (t ≡ u → ⊥) → Part b (listing t) (listing u)

-- So whoever gets "several" has two readings whose listings part so.
abbrev pub SeveralPart : Type 0
SeveralPart =
    (b w chart₀ l₀ : List ℕ) (r : Answer Refusal) (chart l : List ℕ) → Outcome b w chart₀ l₀ r chart l → r ≡ Several
    → (t : Tree) × (u : Tree) × Reading b w t × Reading b w u × Part b (listing t) (listing u)

-- Refusal 8 names a production p with an earlier one q that takes a line in no other way: over the same arguments f there is a tree with p exactly if there is one with q.
-- (They spell the same, and their listings differ in the first number alone.) If the priorities don't tell the two apart, the same holds of trees without a conflict.
pub record TwinsAt (b : List ℕ) (place p q : ℕ) : Type 0 where
  pub at : place ≡ production_at b p
  pub there : p < productions b
  pub earlier : q < p
  pub equal : same_production b p q ≡ true
  pub trees : (x : ℕ) (f : Forest) → Built b x (node p f) ↔ Built b x (node q f)
  pub conflict_free : ((i r : ℕ) → Conflict b p i r ↔ Conflict b q i r) → (f : Forest) → ConflictFree b (node p f) ↔ ConflictFree b (node q f)

abbrev pub TwinsRefused : Type 0
TwinsRefused = (b : List ℕ) → Bytes b → (place : ℕ) → checked b ≡ refused Repeated place → (p : ℕ) × (q : ℕ) × TwinsAt b place p q

-- The former refusal 8, by which productions were equal if their bytes were; and the check with it in its place.
abbrev pub former_equal : List ℕ → ℕ → ℕ → Bool
former_equal b p q = eqb (result_sort b p) (result_sort b q) && eqb (argument_count b p) (argument_count b q) && all_below (argument_count b p) (λ i. eqb (argument b p i) (argument b q i))

abbrev pub former_eight : List ℕ → Verdict
former_eight b = first_refusal (productions b) (λ p. refuse_if (any_below p (former_equal b p)) Repeated (production_at b p))

abbrev pub former_checked : List ℕ → Verdict
former_checked b =
    in_order
    (short_header b
    ∷ bad_header b
    ∷ short_contents b
    ∷ bad_argument_counts b
    ∷ bad_range_counts b
    ∷ bad_length b
    ∷ bad_productions b
    ∷ bad_declarations b
    ∷ former_eight b
    ∷ circles b
    ∷ [])

-- No grammar is accepted that was refused; one that was accepted still is, or it is refused by 8 (`TwinsRefused`). Where no two classes are the same set, the check gives
-- what it gave. (No other definition has changed.)
pub record EqualAsBefore (b : List ℕ) : Type 0 where
  pub still_refused : checked b ≡ accepted → former_checked b ≡ accepted
  pub refused_now : former_checked b ≡ accepted → (checked b ≡ accepted) ⊎ ((place : ℕ) × (checked b ≡ refused Repeated place))
  pub judged : ((j k : ℕ) → j < k → k < classes b → same_class b j k ≡ false) → checked b ≡ former_checked b

-- ---- Request 6. "Show that each numeral, read in base ten, gives its number and begins with 0 only for 0, and that a byte passes a class exactly if some range of it,
-- either way round, has it."

-- The numeral of n (`numeral`, writing/specs/Numeral), by which flat books and pages are written, is made of digits and has no leading 0 but in 0 itself (`Plain`,
-- writing/specs/Digits); read in base ten (`value_of`) it gives n, it begins with 0 only for 0, and no other such digits give n.
pub record NumeralsSay (n : ℕ) : Type 0 where
  pub plain : Plain (numeral n)
  pub value : value_of (numeral n) ≡ n
  pub leading : (ds : List ℕ) → numeral n ≡ digit_zero ∷ ds → n ≡ 0
  pub only : (ds : List ℕ) → Plain ds → value_of ds ≡ n → ds ≡ numeral n

-- The numerals that stand in a text are its longest runs of digits (`numerals_in`, beside `Plain`). Those of a flat book's text are the numerals of the numbers that it names
-- (`grammar_numbers`, ccg/specs/Named): the ends of each range of each class, argument by argument, and the result, line by line. Whatever the grammar.
abbrev pub FlatNumerals : Type 0
FlatNumerals = (g : List Line) → numerals_in (grammar_text g) ≡ map numeral (grammar_numbers g)

-- Those of a page, before the text of each line, are the numerals of the depth, the number, the start and the end of its row in the reading listed.
abbrev pub PageNumerals : Type 0
PageNumerals =
    (b : List ℕ) → Bytes b → (w l page₀ : List ℕ) (n : ℕ) (page : List ℕ) → PageOutcome b w l page₀ (Ok n) page
    → (t : Tree) × Listed b w l t × ((k : ℕ) → k < length (numbers_of l)
    → let r = get_or (rows 0 0 t) k no_row in numerals_in (take 18 (slice (73 * k) (73 * (k + 1)) page)) ≡ map numeral (r.depth ∷ r.number ∷ r.start ∷ r.end ∷ []))

-- Argument i of production p is there, and is class k.
pub record IsArgument (b : List ℕ) (p i k : ℕ) : Type 0 where
  pub there : (p < productions b) × (i < argument_count b p)
  pub named : k < classes b
  pub class : argument b p i ≡ class_base + k

-- A byte c passes class k of a grammar exactly if some range of it has c, either way round (`SomeRangeHas`, classes/specs/Classes): by the definition that all others go by,
-- for every list of bytes; by the words that are made of the ranges (`SetOf`: what `classes::class_set` promises); and at an argument that is class k, by the tables
-- that texts and listings are read by (`FlatTables`: what `flatten::flatten` promises), by the flat book, and by the grammar's trees.
pub record PassesClass (b : List ℕ) (k c : ℕ) : Type 0 where
  pub class : (class_has b k c ≡ true) ↔ SomeRangeHas b k c
  pub words : (words : List ℕ) → SetOf b k words → c < characters → (has words c ≡ true) ↔ SomeRangeHas b k c
  pub tables : (t : List ℕ) → FlatTables b t → (p i : ℕ) → IsArgument b p i k → c < characters → (takes_char t (slot p i) c ≡ true) ↔ SomeRangeHas b k c
  pub flat : (p i : ℕ) → IsArgument b p i k → (flat_class b p i c ≡ true) ↔ SomeRangeHas b k c
  pub tree : k < classes b → Built b (class_base + k) (leaf c) ↔ SomeRangeHas b k c

-- ---- Request 7. "The archive will hold flat books as text, so we need the reader for what we write. It takes a flat book in exactly the written form, 64 yes-or-no entries
-- for the lines allowed at the root, and a text, and answers as the reading does: its readings are the trees of its lines with an allowed line at the root, and demand 3 holds
-- of them, with 27 and 28 in place of 1 to 9." A flat text of no line is 27, as no text in the form has none.

-- `Says text g` (form/specs/Form): the text is that of g, which has 1 to 64 lines, at most 8 arguments in each, its own number at each line's end, and in each class only
-- characters or only numbers that a line could have. `InForm`: it says some grammar; `Viable`: some text in the form begins so. A text says one grammar, and
-- "reading and writing a flat text gives its bytes back", either way about.
pub record RoundTrips : Type 0 where
  pub one : (text : List ℕ) (g h : List Line) → Says text g → Says text h → g ≡ h
  pub written : (text : List ℕ) (g : List Line) → Says text g → grammar_text g ≡ text
  pub read : (g h : List Line) → Writable g → Says (grammar_text g) h → h ≡ g
  -- the tables that `load::load` fills from a text in the form are those of the grammar that it says, so `ccg::put_grammar` writes its bytes from them
  pub tables : (text : List ℕ) (r : Result ℕ Refusal) (t : List ℕ) → Loaded text r t → (g : List Line) → Says text g → table_grammar t ≡ g

-- "27 not the written form, in which a class may name any rule number a line could have, place the first byte at which no such text goes on so, or the length": `NotInForm` says
-- that the text is not in the form, and that the place is the length of the longest beginning that some text in the form has too. "28 a class … naming an absent line, place that number, the first such in the flat book." Each exactly so, and else the lines
-- are counted.
pub record CheckedExactly (text : List ℕ) (r : Result ℕ Refusal) : Type 0 where
  pub lines : (n : ℕ) → (r ≡ Ok n) ↔ ((g : List Line) × Says text g × ((p i q : ℕ) → Names g p i q → ⊥) × (n ≡ length g))
  pub not_in_form : (k : ℕ) → (r ≡ refused Form k) ↔ NotInForm text k
  pub absent : (k : ℕ) → (r ≡ refused NoLine k) ↔ ((g : List Line) × Says text g × FirstNamed g k)
  pub no_other : (x : Refusal) → r ≡ Err x → (x.fault ≡ Form) ⊎ (x.fault ≡ NoLine)

abbrev pub ChecksFlat : Type 0
ChecksFlat = (text : List ℕ) (r : Result ℕ Refusal) → Checked text r → CheckedExactly text r

-- So are the refusals of reading, in order; "or the root …, else the lowest at the root". By none of them is anything changed.
pub record FlatRefused (flat : List ℕ) (roots : List Bool) (w chart₀ l₀ : List ℕ) (r : Answer Refusal) (chart l : List ℕ) : Type 0 where
  pub not_in_form : (k : ℕ) → (r ≡ NotRead (refusal Form k)) ↔ NotInForm flat k
  pub absent : (g : List Line) → Says flat g → (k : ℕ) → (r ≡ NotRead (refusal NoLine k)) ↔ (FirstNamed g k ⊎ (((p i q : ℕ) → Names g p i q → ⊥) × LowestRoot g roots k))
  pub ten : (g : List Line) → Says flat g → (k : ℕ) → (r ≡ NotRead (refusal LongText k)) ↔ (AllThere g roots × (text_limit < length w) × (k ≡ length w))
  pub twenty : (g : List Line) → Says flat g → (k : ℕ)
      → (r ≡ NotRead (refusal ShortChart k)) ↔ (AllThere g roots × (length w ≤ text_limit) × (k ≡ chart_bytes (line_arity g) (length g) (length w)) × (length chart₀ < k))
  pub unchanged : (x : Refusal) → (number_of x.fault ≡ 22 → ⊥) → r ≡ NotRead x → (chart ≡ chart₀) × (l ≡ l₀)

abbrev pub RefusesFlat : Type 0
RefusesFlat = (flat : List ℕ) (roots : List Bool) (w chart₀ l₀ : List ℕ) (r : Answer Refusal) (chart l : List ℕ) → FlatOutcome flat roots w chart₀ l₀ r chart l → FlatRefused flat roots w chart₀ l₀ r chart l

-- Otherwise demand 3 holds of the trees of its lines (`Generated`, Definition 3.4) with an allowed line at the root (`trees_of`, archive/specs/Outcome).
abbrev pub ReadFlat : Type 0
ReadFlat =
    (flat : List ℕ) (roots : List Bool) (w chart₀ l₀ : List ℕ) (r : Answer Refusal) (chart l : List ℕ) → FlatOutcome flat roots w chart₀ l₀ r chart l
    → (g : List Line) → Says flat g → AllThere g roots → length w ≤ text_limit → chart_bytes (line_arity g) (length g) (length w) ≤ length chart₀
    → ReadExactly (trees_of g roots w) chart₀ l₀ r chart l

-- What was lent determines the answer and every byte afterwards.
abbrev pub OneFlatOutcome : Type 0
OneFlatOutcome =
    (flat : List ℕ) (roots : List Bool) (w chart₀ l₀ : List ℕ) (r r' : Answer Refusal) (chart chart' l l' : List ℕ)
    → FlatOutcome flat roots w chart₀ l₀ r chart l → FlatOutcome flat roots w chart₀ l₀ r' chart' l' → (r ≡ r') × (chart ≡ chart') × (l ≡ l')

-- The entries for the root that are the numbers of the start sort's rules.
abbrev pub start_entries : List ℕ → List Bool
start_entries b = tabulate production_limit (λ q. ltb q (productions b) && eqb (result_sort b q) (start_sort b))

-- "For a book's own written flat book, and the numbers of its start sort's rules, answers, listing and chart equal those of the book": from the book over the text that was
-- lodged to the reading, nothing else is kept. The text is what `flatten::write_flat` left in a buffer that held out₀; for every text w of bytes, chart and listing buffer.
abbrev pub LodgedAndRead : Type 0
LodgedAndRead =
    (b : List ℕ) → Bytes b → (out₀ : List ℕ) (n : ℕ) → flat_answer b (length out₀) ≡ Ok n
    → let lodged = take n (buffer_after (flat_answer b (length out₀)) (grammar_text (flat_grammar b)) out₀) in
    (w chart₀ l₀ : List ℕ) (r r' : Answer Refusal) (chart chart' l l' : List ℕ)
    → Outcome b w chart₀ l₀ r chart l → FlatOutcome lodged (start_entries b) w chart₀ l₀ r' chart' l' → (r ≡ r') × (chart ≡ chart') × (l ≡ l')

-- The places of 27 that are easily taken for others, each computed (form/specs/Corners); and a text of 64 lines stops at the first byte behind them.
pub record Corners : Type 0 where
  pub table : All StopsThere corners
  pub full : (g : List Line) → Writable g → length g ≡ production_limit → (byte : ℕ) (rest : List ℕ) → StopsThere (corner (grammar_text g ++ (byte ∷ rest)) (length (grammar_text g)))

-- ---- Request 8. "A clash answer should carry the rule of the book behind it: which of the three clash lines of the first paper, the lowest that holds, and the declaration, by
-- its index from 0."

-- `Leads b chain x y` (shortest/specs/Chain): each declaration of the chain is of kind 1, its second production the first of the next, from x to y. "Higher" is that some chain leads there, and
-- no chain has as many declarations as there are productions.
pub record Chains (b : List ℕ) (x y : ℕ) : Type 0 where
  pub some : Higher b x y ↔ ((chain : List ℕ) × Leads b chain x y)
  pub short : checked b ≡ accepted → (chain : List ℕ) → Leads b chain x y → length chain < productions b

-- "Yes and no come exactly as in the plain question"; so do the refusals. Each line comes exactly if it is the lowest that holds (`LowestLine`, reason/specs/Reason: over all that a conflict may
-- be by), and then "a chain of declarations of kind 1 from p to q …, as short as any" (`Shortest`), or "the lowest declaration, single or group, of a kind that the line names,
-- that covers the pair" (`LowestDeclaration`).
pub record ReasonedExactly (b : List ℕ) (p i q : ℕ) (r : Result (Option Cause) Refusal) : Type 0 where
  pub free : (r ≡ Ok Nothing) ↔ (conflict_answer b p i q ≡ Ok false)
  pub refused : (x : Refusal) → (r ≡ Err x) ↔ (conflict_answer b p i q ≡ Err x)
  pub higher : (n : ℕ) → (r ≡ Ok (Some (ByChain n))) ↔ (Asked b p i q × LowestLine b p i q 1 × ((chain : List ℕ) × Shortest b p q chain × (n ≡ length chain)))
  pub first : (d : ℕ) → (r ≡ Ok (Some (AtFirst d))) ↔ (Asked b p i q × LowestLine b p i q 2 × LowestDeclaration b right p q d)
  pub last : (d : ℕ) → (r ≡ Ok (Some (AtLast d))) ↔ (Asked b p i q × LowestLine b p i q 3 × LowestDeclaration b left p q d)

abbrev pub Reasons : Type 0
Reasons = (b : List ℕ) (p i q : ℕ) (chain₀ : List ℕ) (r : Result (Option Cause) Refusal) (chain : List ℕ) → Reasoned b p i q chain₀ r chain → ReasonedExactly b p i q r

-- What was lent determines the answer, and the buffer afterwards but for line 1. "Another chain of that length is equally good, so which of them it is stays unfixed": there the buffer starts with one
-- of the shortest chains, as much of it as fits, and beyond that it is as it was (`chain_after`); and with any other in its place the promise would be kept as well. Nothing else is open.
pub record OneReason (b : List ℕ) (p i q : ℕ) (chain₀ : List ℕ) : Type 0 where
  pub answer : (r r' : Result (Option Cause) Refusal) (chain chain' : List ℕ) → Reasoned b p i q chain₀ r chain → Reasoned b p i q chain₀ r' chain' → r ≡ r'
  pub kept : (r : Result (Option Cause) Refusal) (chain : List ℕ) → Reasoned b p i q chain₀ r chain → ((n : ℕ) → r ≡ Ok (Some (ByChain n)) → ⊥) → chain ≡ chain₀
  pub written : (n : ℕ) (chain : List ℕ) → Reasoned b p i q chain₀ (Ok (Some (ByChain n))) chain
      → (own : List ℕ) × Shortest b p q own × (n ≡ length own) × (chain ≡ chain_after own chain₀)
  pub unfixed : (n : ℕ) (chain : List ℕ) → Reasoned b p i q chain₀ (Ok (Some (ByChain n))) chain → (other : List ℕ) → Shortest b p q other → Reasoned b p i q chain₀ (Ok (Some (ByChain n))) (chain_after other chain₀)

-- ---- Request 9. "When a text has several readings, the bench compares two by the multi-set order of source document 002, section 7. Count each rule in each listing. The first is
-- below the second if the counts differ and, for each rule it uses more often, some rule higher than that one is used less often. … The answer is −1 below, 1 above, 0 equal
-- counts; 2 neither."

-- The counts are those of the trees: how often a listing has a production's number is how often the production is the root of a subtree of the reading listed, of which there
-- is one (`OneListed`). Characters don't count.
abbrev pub UsesOfTrees : Type 0
UsesOfTrees = (b : List ℕ) → Bytes b → (w l : List ℕ) (t : Tree) → Listed b w l t → (p : ℕ) → uses l p ≡ tree_uses t p

-- Each order is answered exactly if both listings are right and it is what the uses say (`OrderIs`, order/specs/Order), and that is what they say of the trees. Each refusal is given
-- exactly under its condition (`ComparisonRefused`, compare/specs/Refusals, a constructor to a line): "11 and 29 each take the first before the second". What was lent determines the answer.
pub record ComparedExactly (b w l m : List ℕ) (r : CompareAnswer) : Type 0 where
  pub ordered : (o : Order) → (r ≡ Ok o) ↔ ((listing_answer b w l ≡ Ok Right) × (listing_answer b w m ≡ Ok Right) × OrderIs b (uses l) (uses m) o)
  pub trees : Bytes b → (o : Order) → r ≡ Ok o → (t u : Tree) → Listed b w l t → Listed b w m u → OrderIs b (tree_uses t) (tree_uses u) o
  pub refused : (x : Refusal) → (r ≡ Err x) ↔ ComparisonRefused (listing_answer b w l) (listing_answer b w m) x
  pub no_other : (x : Refusal) → r ≡ Err x → (number_of x.fault ≤ 11) ⊎ (number_of x.fault ≡ 29)
  pub one : (r' : CompareAnswer) → Compared b w l m r' → r ≡ r'

abbrev pub Compares : Type 0
Compares = (b w l m : List ℕ) (r : CompareAnswer) → Compared b w l m r → ComparedExactly b w l m r

-- "Swapping the readings negates −1, 0 and 1 and keeps 2."
pub record Swaps (o : Order) : Type 0 where
  pub negates : (order_number o ≡ pos 2 → ⊥) → order_number (swapped o) ≡ neg_ℤ (order_number o)
  pub keeps : order_number o ≡ pos 2 → order_number (swapped o) ≡ pos 2
  pub answer : (b w l m : List ℕ) → Compared b w l m (Ok o) → Compared b w m l (Ok (swapped o))

-- "Below is shown to be transitive for a fixed book", whatever the counts; nothing is below itself, and no two are below each other. Equal counts are an equivalence, and what has
-- equal counts is below the same.
pub record OrderOf (b : List ℕ) : Type 0 where
  pub transitive : (l m n : Uses) → Lower b l m → Lower b m n → Lower b l n
  pub irreflexive : (m : Uses) → Lower b m m → ⊥
  pub one_way : (m n : Uses) → Lower b m n → Lower b n m → ⊥
  pub itself : (m : Uses) → EqualCounts b m m
  pub back : (m n : Uses) → EqualCounts b m n → EqualCounts b n m
  pub onward : (l m n : Uses) → EqualCounts b l m → EqualCounts b m n → EqualCounts b l n
  pub alike : (l m n k : Uses) → EqualCounts b l m → EqualCounts b n k → Lower b l n → Lower b m k

abbrev pub Orders : Type 0
Orders = (b : List ℕ) → checked b ≡ accepted → OrderOf b

-- So are the answers, for the readings of a text.
pub record AnswersInOrder (b w l m n : List ℕ) : Type 0 where
  pub transitive : Compared b w l m (Ok Below) → Compared b w m n (Ok Below) → Compared b w l n (Ok Below)
  pub onward : Compared b w l m (Ok Equal) → Compared b w m n (Ok Equal) → Compared b w l n (Ok Equal)
  pub itself : (r : CompareAnswer) → Compared b w l l r → listing_answer b w l ≡ Ok Right → r ≡ Ok Equal

-- ---- The paper's marked cases: any outcome of reading each of them, whatever chart and buffer held, is the one marked.
abbrev pub MarkedCases : Type 0
MarkedCases = All Promised table
