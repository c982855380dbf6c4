-- The theorems of the page, each from the law that proves it.
use Prim.Native.Nat.{ℕ, ◌+◌, ◌<◌}
use mathlib.Core.Path.{◌≡◌, refl, sym, ◌∙◌, ap, subst, subst₂, subst⁻¹, fun_ext}
use mathlib.Core.Bool.{true}
use mathlib.Core.Logic.{◌↔◌, ⊎_elim, inl, inr}
use mathlib.Core.List.{List}
use native.Mathlib.Omega.{arith}
use lib.ListN.{length, get_or, take, drop}
use lib.Seq.{slice, take_at}
use Rattle.writing.specs.Answer.{buffer_after}
use Rattle.flatten.specs.Answer.{flat_answer}
use Rattle.flatten.proofs.AnswerLaws.{flat_fits, flat_too_long, flat_grammar_lem}
use Rattle.flatten.proofs.FlatClassLaws.{flat_any, flat_argument}
use Rattle.flatten.proofs.FlatLaws.{flat_trees}
use Rattle.flatten.proofs.VisserLaws.{flat_completed, flat_visser}
use Rattle.flatten.proofs.AlikeLaws.{flat_alike, reading_alike, entry_alike}
use Rattle.ccg.specs.Text.{grammar_text}
use Rattle.archive.proofs.ExactLaws.{refusal_named, refusal_ten, refusal_twenty, refused_exactly as flat_refused_exactly, form_exactly, flat_unchanged, flat_parsed}
use Rattle.archive.proofs.UniqueLaws.{flat_unique}
use Rattle.archive.specs.Outcome.{trees_of, FlatOutcome}
use Rattle.engine.specs.Outcome.{Parsing, Parsed}
use Rattle.engine.specs.declared.Answer.{Answer}
use Rattle.form.proofs.CornerLaws.{all_corners, full_stops}
use Rattle.form.proofs.FormLaws.{says_unique}
use Rattle.load.proofs.CheckLaws.{loaded_says, checked_lines, checked_form, checked_absent, checked_faults}
use Rattle.load.proofs.NamesLaws.{names_accepted}
use Rattle.theorems.proofs.OwnTextLaws.{own_outcome}
use Rattle.ccg.proofs.ListingLaws.{listing_determines}
use Rattle.ccg.proofs.NamedLaws.{grammar_names}
use Rattle.ccg.proofs.WrittenLaws.{text_determines}
use Rattle.flatten.proofs.FlatWrittenLaws.{flat_written}
use Rattle.charset.proofs.SpansLaws.{spans_rising, spans_turned, spans_falling}
use Rattle.charset.specs.Set.{characters, has, in_range}
use Rattle.classes.proofs.ClassesLaws.{class_passes}
use Rattle.common.proofs.BelowLaws.{between_in, between_ends}
use Rattle.compare.proofs.OneLaws.{compared_one, ordered_exactly, not_compared_exactly as compare_refused, compared_numbers}
use Rattle.compare.specs.Answer.{CompareAnswer, Compared}
use Rattle.ccg.specs.Ccg.{Class, Line, Generated}
use Rattle.flatten.specs.Flat.{flat_class, flat_grammar, plain_class}
use Rattle.engine.proofs.AnswerLaws.{none_exactly, none_buffer, several_exactly, several_buffer, one_exactly, one_buffer, long_exactly, long_buffer, refused_is_long}
use Rattle.numbers.specs.Written.{room}
use Rattle.layout.specs.Layout.{start_sort}
use Rattle.layout.specs.Limits.{group_step}
use Rattle.theorems.proofs.PartLaws.{readings_part, several_part}
use Rattle.theorems.proofs.TwinLaws.{refused_twins, still_refused_lem, refused_now_lem, judged_as_before}
use Rattle.theorems.proofs.ComparedLaws.{uses_listed, says_trees, compared_swapped, compared_below, compared_equal, compared_itself, turned_compared}
use Rattle.theorems.proofs.OneRightLaws.{one_right}
use Rattle.theorems.proofs.PassesLaws.{test_passes, tree_passes, flat_passes, table_passes}
use Rattle.theorems.proofs.TurnedLaws.{turned_question, turned_listing, turned_page, turned_row, turned_part}
use Rattle.refusal.proofs.FaultLaws.{never_six as no_six}
use Rattle.refusal.specs.Verdict.{refusal, RefusedBy}
use Rattle.refusal.specs.declared.Fault.TheVariants.{LongText, ShortChart, NoLine}
use Rattle.refusal.specs.declared.Refusal.{Refusal}
use Rattle.std.specs.Prelude.{Result, Ok, Err, Some}
use Rattle.listing.proofs.RefusedLaws.{grammar_exactly as listing_grammar, ten_exactly as listing_ten, eleven_exactly, right_exactly}
use Rattle.marked.proofs.Marked.{marked_outcomes}
use Rattle.order.proofs.OrderLaws.{lower_transitive, lower_irreflexive, lower_one_way, lower_equal, swapped_negates, swapped_keeps}
use Rattle.order.specs.declared.Order.{Order}
use Rattle.page.proofs.AnswerLaws.{page_fits, page_too_long, page_wrong, page_refused, page_numbers}
use Rattle.page.proofs.LinesLaws.{line_says, page_beyond, part_spelled, row_none}
use Rattle.page.proofs.RightLaws.{RightListing}
use Rattle.page.proofs.UniqueLaws.{one_listed, page_one, row_one, part_one}
use Rattle.page.specs.Answer.{page_length, PageAfter, PageOutcome}
use Rattle.parse.specs.Outcome.{Outcome, reading_by}
use Rattle.parse.proofs.AnswerLaws.{parsed_outcome, refused_unchanged, grammar_exactly, ten_exactly, twenty_exactly, text_numbers}
use Rattle.parse.proofs.OutcomeLaws.{outcome_unique}
use Rattle.parse.proofs.TurnedLaws.{turned_outcome}
use Rattle.priority.proofs.CheckLaws.{accepted_formed}
use Rattle.question.proofs.AnswerLaws.{conflict_yes, conflict_no, conflict_absent, conflict_refused}
use Rattle.priority.proofs.DeclarationLaws.{accepted_declares}
use Rattle.priority.proofs.SpelledLaws.{group_number, single_found, single_written, single_turned, group_found, group_made, group_only, spelled_none, spelled_same, spelled_many, spelled_declared, higher_alike, circles_alike, conflict_carried}
use Rattle.priority.proofs.SpelledGrammarLaws.{spelled_no_groups, spelled_small, spelled_conflict, spelled_accepted}
use Rattle.flatten.proofs.SpelledGrammarLaws.{spelled_flat, spelled_reading}
use Rattle.flatten.proofs.TurnedLaws.{turned_flat, turned_flat_answer, turned_reading}
use Rattle.grammar.proofs.FormedLaws.{pair_judged}
use Rattle.grammar.proofs.RisenLaws.{risen_turned, risen_rises, risen_small}
use Rattle.grammar.proofs.EqualLaws.{equal_exactly}
use Rattle.grammar.proofs.TurnedLaws.{turned_back, rising_characters, rising_passed}
use Rattle.priority.specs.Priorities.{Kind, left, right, nonassoc, kind_number, either_way, declaration_of, declarations_of}
use Rattle.priority.specs.declared.Declaration.{Declaration}
use Rattle.priority.specs.Spelled.{spelled_out}
use Rattle.priority.specs.Refusals.{First}
use Rattle.priority.proofs.RefusalLaws.{refused_first, first_refused, accepted_free, free_accepted}
use Rattle.priority.proofs.TurnedLaws.{turned_checked, turned_conflict, rising_judged}
use Rattle.reason.proofs.ExactlyLaws.{free_exactly, refused_exactly as reason_refused_exactly, higher_exactly, first_exactly, last_exactly, chain_written, buffer_kept, one_answer, any_shortest}
use Rattle.reason.specs.declared.Cause.TheVariants.{Higher as ByChain}
use Rattle.rows.proofs.RowsLaws.{row_number}
use Rattle.rows.proofs.UnderLaws.{row_stands}
use Rattle.rows.specs.declared.Row.{Row}
use Rattle.sheet.proofs.AnswerLaws.{sheet_grammar, sheet_too_long_lem, summary_too_short_lem, sheet_numbers, sheet_unchanged, sheet_read_exactly, sheet_in_turn, sheet_beyond, step_grammar, step_too_long, step_numbers, step_no_line, step_stays, step_line_says, step_others}
use Rattle.shortest.proofs.ChainLaws.{higher_leads, leads_higher, leads_short}
use Rattle.split.proofs.JoinedLaws.{lines_joined, lines_plain, lines_only}
use Rattle.sheet.proofs.LineLaws.{line_alone}
use Rattle.sheet.proofs.OutcomeLaws.{sheet_unique, step_unique}
use Rattle.sheet.proofs.TurnedLaws.{turned_sheet, turned_step}
use Rattle.sheet.proofs.WalkLaws.{walk_summary}
use Rattle.tables.specs.Layout.{slot, takes_char}
use Rattle.writing.proofs.DigitsLaws.{numeral_plain, numeral_only}
use Rattle.writing.proofs.NumeralLaws.{numeral_value, numeral_leading}
use Rattle.theorems.specs.Theorems.{Bytes, AcceptedExactly, RefusedExactly, ConflictExactly, FlatExactly, Refuses, OneOutcome, ListingExactly, OneIsRight, Declares, FlatIsVisser, FlatIsCompleted, FlatTrees, FlatArguments, ReadingsAreFlat, Read, TextDetermines, Archived, FlatIsWritten, ListingDetermines, OneListed, PageExactly, PageSays, Pages, Parts, SaysOfGroup, GroupsSay, Spells, GroupsAreTheirPairs, SpelledBooks, PairsAsBefore, RangesSay, TurnedRangesSame, RangesCanRise, RisingRangesAsBefore, NeverSix, LinesSay, Sheets, LinesAlone, EachStep, WalkersGoDown, EqualExactly, ReadingsPart, SeveralPart, TwinsRefused, EqualAsBefore, NumeralsSay, FlatNumerals, PageNumerals, PassesClass, MarkedCases, RoundTrips, ChecksFlat, RefusesFlat, ReadFlat, OneFlatOutcome, start_entries, LodgedAndRead, Corners, Chains, Reasons, OneReason, UsesOfTrees, Compares, Swaps, Orders, AnswersInOrder, ReadExactly}

-- ---- demand 1

pub accepted_exactly : AcceptedExactly
accepted_exactly b = ((λ e. accepted_free b e), (λ h. free_accepted b h))

pub refused_exactly : RefusedExactly
refused_exactly b number place = ((λ (x, e, n, k). subst₂ (First b) n k (refused_first b e)), (λ h. first_refused b h))

pub conflict_exactly : (b : List ℕ) (p i q : ℕ) → ConflictExactly b p i q
conflict_exactly b p i q =
    record { yes = conflict_yes b p i q; no = conflict_no b p i q; absent = conflict_absent b p i q; refused = conflict_refused b p i q }

pub flat_exactly : (b out₀ : List ℕ) → FlatExactly b out₀
flat_exactly b out₀ =
    record {
      fits = flat_fits b (length out₀);
      too_long = flat_too_long b (length out₀);
      grammar = flat_grammar_lem b (length out₀);
      written = λ n text. refl;
      unwritten = λ x text. refl;
    }

pub reading_refused : Refuses
reading_refused b w chart₀ l₀ r chart l o =
    record {
      grammar = grammar_exactly b w chart₀ l₀ r chart l o;
      ten = ten_exactly b w chart₀ l₀ r chart l o;
      twenty = twenty_exactly b w chart₀ l₀ r chart l o;
      unchanged = refused_unchanged b w chart₀ l₀ r chart l o;
    }

pub one_outcome : OneOutcome
one_outcome = outcome_unique

pub listing_exactly : (b w l : List ℕ) → Bytes b → ListingExactly b w l
listing_exactly b w l bytes = record { right = right_exactly b w l bytes; grammar = listing_grammar b w l; ten = listing_ten b w l; eleven = eleven_exactly b w l }

pub one_is_right : OneIsRight
one_is_right = one_right

-- ---- demand 2

pub declares : Declares
declares = accepted_declares

pub flat_is_visser : FlatIsVisser
flat_is_visser b bytes e = flat_visser b (accepted_formed b e) bytes

pub flat_is_completed : FlatIsCompleted
flat_is_completed b bytes e = flat_completed b (accepted_formed b e) bytes

pub flat_trees_exactly : FlatTrees
flat_trees_exactly b bytes e = flat_any b (accepted_formed b e) bytes

pub flat_arguments_exactly : FlatArguments
flat_arguments_exactly b bytes e = flat_argument b (accepted_formed b e) bytes

pub readings_are_flat : ReadingsAreFlat
readings_are_flat b bytes e w t =
    let trees = flat_trees b (accepted_formed b e) bytes (start_sort b) t in
    ((λ r. (trees.0 (r.built, r.free), r.spells)), (λ h. let (built, free) = trees.1 h.0 in record { built = built; free = free; spells = h.1 }))

-- ---- demand 3

-- what a text and a chart that are not refused give, whatever the trees
parsed_exactly : (s : Parsing) (chart₀ l₀ : List ℕ) (r : Answer Refusal) (chart l : List ℕ) → Parsed s chart₀ l₀ r chart l → ReadExactly s chart₀ l₀ r chart l
unfolding room
parsed_exactly s chart₀ l₀ r chart l parsed =
    let P = s.parse in
    let a = parsed.answer in
    let counts = parsed.chart in
    record {
      none = none_exactly P l₀ r l a;
      several = several_exactly P l₀ r l a;
      one = one_exactly P l₀ r l a;
      too_long = long_exactly P l₀ r l a;
      no_other = refused_is_long P l₀ r l a;
      unwritten = ⊎_elim (none_buffer P l₀ r l a) (several_buffer P l₀ r l a);
      whole = one_buffer P l₀ r l a;
      front = long_buffer P l₀ r l a;
      chart_counts = (counts.entries, counts.long, counts.whole, λ p d i j lp ld ij jw. counts.counted.counts p d i j lp ld ij jw refl);
    }

pub read_exactly : Read
read_exactly b w chart₀ l₀ r chart l o e short enough =
    parsed_exactly (reading_by b w) chart₀ l₀ r chart l (parsed_outcome b w chart₀ l₀ r chart l o (record { accepted = e; short = short; enough = enough }))

-- ---- the archive

pub text_determines_grammar : TextDetermines
text_determines_grammar = text_determines

pub flat_is_written : FlatIsWritten
flat_is_written b bytes e = flat_written b (accepted_formed b e) bytes

pub archived : Archived
archived b bytes e g form text top starts w t =
    let same : flat_grammar b ≡ g = text_determines (flat_grammar b) g (flat_is_written b bytes e) form (sym text) in
    let tops : plain_class b (start_sort b) ≡ top = fun_ext (λ n. sym (starts n)) in
    let flat = readings_are_flat b bytes e w t in (
      (λ h. flat.1 (subst⁻¹ (λ (k : List Line). Generated k (plain_class b (start_sort b)) t) same (subst⁻¹ (λ (cc : Class). Generated g cc t) tops h.0), h.1)),
      (λ r. let h = flat.0 r in (subst (λ (cc : Class). Generated g cc t) tops (subst (λ (k : List Line). Generated k (plain_class b (start_sort b)) t) same h.0), h.1)),
    )

-- ---- request 1

pub listing_determines_tree : ListingDetermines
listing_determines_tree = listing_determines

pub one_listed_reading : OneListed
one_listed_reading = one_listed

pub page_exactly : (b w l : List ℕ) (room : ℕ) → PageExactly b w l room
unfolding page_length
page_exactly b w l room =
    record {
      written = page_fits b w l room;
      too_long = page_too_long b w l room;
      wrong = page_wrong b w l room;
      refused = page_refused b w l room;
      no_other = page_numbers b w l room;
    }

-- a page that was refused
refused_page : (b w l page₀ : List ℕ) (r : Result ℕ Refusal) (page : List ℕ) (x : Refusal) → r ≡ Err x → PageAfter b w l page₀ r page → page ≡ page₀
unfolding PageAfter
refused_page b w l page₀ r page x e after = subst (λ (a : Result ℕ Refusal). PageAfter b w l page₀ a page) e after

-- and one that was written
written_page : (b : List ℕ) → Bytes b → (w l page₀ : List ℕ) (r : Result ℕ Refusal) (page : List ℕ) (n : ℕ) → r ≡ Ok n → PageOutcome b w l page₀ r page → PageSays b w l page₀ page
unfolding PageAfter page_length
written_page b bytes w l page₀ r page n e o =
    let given : RightListing b w l = record { bytes = bytes; right = ((page_fits b w l (length page₀) n).0 (sym o.answer ∙ e)).0 } in
    let (t, lent, after) : PageAfter b w l page₀ (Ok n) page = subst (λ (a : Result ℕ Refusal). PageAfter b w l page₀ a page) e o.after in
    record {
      tree = t;
      listed = lent;
      number = λ k h. row_number 0 0 t k ∙ ap (λ (v : List ℕ). get_or v k 0) lent.listed;
      line = line_says given lent page₀ page after;
      stands = λ k h. row_stands t k (subst (λ (v : List ℕ). k < length v) (sym lent.listed) h);
      beyond = page_beyond given lent page₀ page after;
    }

pub pages : Pages
pages b bytes w l page₀ r page o = (
  record {
    answer = o.answer;
    one = λ r' page' o'. page_one b bytes w l page₀ r r' page page' o o';
    unchanged = λ x e. refused_page b w l page₀ r page x e o.after;
  },
  (λ n e. written_page b bytes w l page₀ r page n e o),
)

pub parts : Parts
parts b bytes w l index part under =
    record {
      one = λ part' other. part_one b bytes w l index part part' under other;
      place = λ r other. under.is_part ∙ ap (λ (q : Row). slice q.start q.end w) (row_one b bytes w l index under.row r under.under other);
      one_place = row_one b bytes w l index;
      spells = λ right t lent h. part_spelled (record { bytes = bytes; right = right }) lent under h;
      none = λ absent r other. let e = row_none b w l index r other absent in (ap (λ (q : Row). q.start) e, ap (λ (q : Row). q.end) e);
    }

-- ---- request 2

says_of_group : (l : Declaration) (k : Kind) → either_way k ≡ true → l.kind ≡ kind_number k + group_step → SaysOfGroup l k
says_of_group l k h e =
    let (g, said) = group_number k h l.kind e in
    record {
      pairs = λ x y. ((λ c. let (_, lx, hx, ly, hy) = group_found l g k x y c in (lx, hx, ly, hy)), (λ (lx, hx, ly, hy). group_made l g k x y said lx hx ly hy));
      only = λ other. group_only l g k other said;
    }

pub groups_say : (l : Declaration) → GroupsSay l
unfolding either_way kind_number
groups_say l = record { five = says_of_group l left refl; six = says_of_group l right refl; seven = says_of_group l nonassoc refl }

pub spells : (ls : List Declaration) → Spells ls
spells ls = record { none = spelled_none ls; same = spelled_same ls; many = spelled_many }

pub groups_are_their_pairs : GroupsAreTheirPairs
groups_are_their_pairs b =
    let ls = declarations_of b in
    let out = spelled_out ls in
    let e = spelled_declared ls in
    record {
      pairs = e;
      higher = higher_alike out ls e;
      circle = circles_alike out ls e b;
      conflict = λ p i q. (conflict_carried out ls e, conflict_carried ls out (λ k x y. sym (e k x y)));
      flat = flat_alike out ls e b;
      reading = reading_alike out ls e b;
      entries = entry_alike out ls e b;
    }

pub spelled_books : SpelledBooks
spelled_books b e =
    let w = accepted_formed b e in
    record {
      accepted = spelled_accepted b e;
      no_group = spelled_no_groups b w;
      conflict = λ p i q (lp, li, lq). spelled_conflict b w p i q lp li lq;
      flat = spelled_flat b w;
      reading = spelled_reading b w;
      bytes = λ small h. spelled_small b w characters (omega arith) small (omega arith);
    }

pub pairs_as_before : PairsAsBefore
unfolding declaration_of
pairs_as_before b d g =
    let l = declaration_of b d in
    record {
      covered = λ k x y. (single_found l g k x y, λ (e, ends). ⊎_elim (λ (f, s). single_written l g k x y e f s) (λ (way, f, s). single_turned l g k x y e way f s) ends);
      seven = pair_judged b d g;
    }

-- ---- request 3

pub ranges_say : (low high c : ℕ) → RangesSay low high c
unfolding in_range
ranges_say low high c =
    record {
      rising = λ h. let e = spans_rising low high c h in ((λ s. between_ends low high c (sym e ∙ s)), (λ (l, m). e ∙ between_in low high c l m));
      falling = λ h. let e = spans_falling low high c h in ((λ s. between_ends high low c (sym e ∙ s)), (λ (l, m). e ∙ between_in high low c l m));
      turned = spans_turned low high c;
    }

pub turned_ranges_same : TurnedRangesSame
turned_ranges_same b c t =
    let back = turned_back b c t in
    record {
      check = turned_checked b c t;
      conflict = λ p i q (lp, li, lq). turned_conflict b c t p i q lp li lq;
      question = turned_question b c t;
      flat = turned_flat b c t;
      written = turned_flat_answer b c t;
      reading = turned_reading b c t;
      outcome = λ w chart₀ l₀ r chart l. (turned_outcome b c t w chart₀ l₀ r chart l, turned_outcome c b back w chart₀ l₀ r chart l);
      listing = turned_listing b c t;
      compare = λ w l m r. (turned_compared b c t w l m r, turned_compared c b back w l m r);
      page = λ w l page₀ r page. (turned_page b c t w l page₀ r page, turned_page c b back w l page₀ r page);
      row = λ w l index r. (turned_row b c t w l index r, turned_row c b back w l index r);
      part = λ w l index part. (turned_part b c t w l index part, turned_part c b back w l index part);
      sheet = λ s chart₀ m₀ r chart m. (turned_sheet b c t s chart₀ m₀ r chart m, turned_sheet c b back s chart₀ m₀ r chart m);
      step = λ s start chart₀ r next chart. (turned_step b c t s start chart₀ r next chart, turned_step c b back s start chart₀ r next chart);
    }

pub ranges_can_rise : RangesCanRise
ranges_can_rise b e =
    let f = (accepted_formed b e).framed in
    record { turned = risen_turned b f; rise = risen_rises b f; bytes = risen_small b f characters }

pub rising_ranges_as_before : RisingRangesAsBefore
rising_ranges_as_before b rise =
    record { class = rising_characters b rise; judged = λ six. rising_judged b (rising_passed b rise six) }

-- no refusal has number 6
none_by_six : {A : Type 0} (v : Result A Refusal) (k : ℕ) → RefusedBy v 6 k → ⊥
none_by_six v k (x, e, six, at) = no_six x.fault six

pub never_six : (b : List ℕ) (k : ℕ) → NeverSix b k
never_six b k =
    record {
      check = none_by_six _ k;
      question = λ p i q. none_by_six _ k;
      flat = λ room. none_by_six _ k;
      reading = λ w chart₀ l₀ r chart l o x e. no_six x.fault;
      listing = λ w l. none_by_six _ k;
      compare = λ w l m r h. none_by_six r k;
      page = λ w l room. none_by_six _ k;
      sheet = λ s chart₀ m₀ r chart m o. none_by_six r k;
      step = λ s start chart₀ r next chart o. none_by_six r k;
    }

-- ---- request 4

pub lines_say : (s : List ℕ) → LinesSay s
lines_say s = record { joined = lines_joined s; no_feed = lines_plain s; only = lines_only s }

pub sheets_exactly : Sheets
sheets_exactly b s chart₀ m₀ r chart m o =
    record {
      grammar = sheet_grammar b s chart₀ m₀ r chart m o;
      too_long = sheet_too_long_lem b s chart₀ m₀ r chart m o;
      too_short = summary_too_short_lem b s chart₀ m₀ r chart m o;
      no_other = sheet_numbers b s chart₀ m₀ r chart m o;
      unchanged = sheet_unchanged b s chart₀ m₀ r chart m o;
      count = λ n e. ((sheet_read_exactly b s chart₀ m₀ r chart m o n).0 e).1;
      in_turn = sheet_in_turn b s chart₀ m₀ r chart m o;
      beyond = sheet_beyond b s chart₀ m₀ r chart m o;
      one = λ r' chart' m' o'. sheet_unique b s chart₀ m₀ r r' chart chart' m m' o o';
    }

pub lines_alone : LinesAlone
lines_alone b e w chart₀ v chart h l₀ r chart' l o =
    let same = line_alone b e w chart₀ v chart h l₀ r chart' l o in
    record { byte = same.0; chart_same = same.1; numbers = text_numbers b w chart₀ l₀ r chart' l o e }

pub each_step : EachStep
each_step b s start chart₀ r next chart o =
    record {
      grammar = step_grammar b s start chart₀ r next chart o;
      too_long = step_too_long b s start chart₀ r next chart o;
      no_other = step_numbers b s start chart₀ r next chart o;
      end = step_no_line b s start chart₀ r next chart o;
      stays = step_stays b s start chart₀ r next chart o;
      line = λ v e. (step_line_says b s start chart₀ r next chart o v e).2;
      others = step_others b s start chart₀ r next chart o;
      one = λ r' next' chart' o'. step_unique b s start chart₀ r r' next next' chart chart' o o';
    }

pub walkers_go_down : WalkersGoDown
walkers_go_down b s chart₀ m₀ n chart m o rs next chart' u =
    let gave = walk_summary b s chart₀ m₀ n chart m o rs next chart' u in
    record { gives = gave.0; in_turn = gave.1; whole = gave.2 }

-- ---- request 5

pub equal_productions_exactly : EqualExactly
equal_productions_exactly = equal_exactly

pub two_readings_part : ReadingsPart
two_readings_part = readings_part

pub several_readings_part : SeveralPart
several_readings_part b w chart₀ l₀ r chart l o e = several_part b w chart₀ l₀ chart l (subst (λ (a : Answer Refusal). Outcome b w chart₀ l₀ a chart l) e o)

pub twins_refused : TwinsRefused
twins_refused b bytes place e = refused_twins b bytes (refused_first b e)

pub equal_as_before : (b : List ℕ) → EqualAsBefore b
equal_as_before b = record { still_refused = still_refused_lem b; refused_now = refused_now_lem b; judged = judged_as_before b }

-- ---- request 6

pub numerals_say : (n : ℕ) → NumeralsSay n
numerals_say n =
    record {
      plain = numeral_plain n;
      value = numeral_value n;
      leading = λ ds e. numeral_leading n (ap (λ (l : List ℕ). get_or l 0 0) e);
      only = numeral_only n;
    }

pub flat_numerals : FlatNumerals
flat_numerals = grammar_names

pub page_numerals : PageNumerals
page_numerals b bytes w l page₀ n page o =
    let says = written_page b bytes w l page₀ (Ok n) page n refl o in
    (says.tree, says.listed, λ k h. (says.line k h).numerals)

pub passes_class : (b : List ℕ) (k c : ℕ) → PassesClass b k c
passes_class b k c =
    record {
      class = class_passes b k c;
      words = λ words is l. test_passes b k c (has words c) (is c l);
      tables = λ t f p i is l. test_passes b k c (takes_char t (slot p i) c) (table_passes b k c p i is t f l);
      flat = λ p i is. test_passes b k c (flat_class b p i c) (flat_passes b k c p i is);
      tree = tree_passes b k c;
    }

-- ---- request 7

pub round_trips : RoundTrips
round_trips =
    record {
      one = says_unique;
      written = λ text g says. sym says.is_text;
      read = λ g h writable says. says_unique (grammar_text g) h g says (record { writable = writable; is_text = refl });
      tables = λ text r t loaded g says. loaded_says text r t loaded g says;
    }

pub checks_flat : ChecksFlat
checks_flat text r h =
    record {
      lines = checked_lines text r h;
      not_in_form = checked_form text r h;
      absent = checked_absent text r h;
      no_other = checked_faults text r h;
    }

pub refuses_flat : RefusesFlat
refuses_flat flat roots w chart₀ l₀ r chart l o =
    record {
      not_in_form = form_exactly flat roots w chart₀ l₀ r chart l o;
      absent = λ g says k. let answer = flat_refused_exactly flat roots w chart₀ l₀ r chart l o g says (refusal NoLine k) (λ e. omega arith) in
          let line = refusal_named g roots w chart₀ k in (
            (λ e. ⊎_elim (λ f. inl f) (λ (a, f). inr ((names_accepted g).0 a, f)) (line.0 (answer.0 e))),
            (λ h. answer.1 (line.1 (⊎_elim (λ f. inl f) (λ (a, f). inr ((names_accepted g).1 a, f)) h))),
          );
      ten = λ g says k. let answer = flat_refused_exactly flat roots w chart₀ l₀ r chart l o g says (refusal LongText k) (λ e. omega arith) in
          let line = refusal_ten g roots w chart₀ k in ((λ e. line.0 (answer.0 e)), (λ h. answer.1 (line.1 h)));
      twenty = λ g says k. let answer = flat_refused_exactly flat roots w chart₀ l₀ r chart l o g says (refusal ShortChart k) (λ e. omega arith) in
          let line = refusal_twenty g roots w chart₀ k in ((λ e. line.0 (answer.0 e)), (λ h. answer.1 (line.1 h)));
      unchanged = flat_unchanged flat roots w chart₀ l₀ r chart l o;
    }

pub read_flat : ReadFlat
read_flat flat roots w chart₀ l₀ r chart l o g says there short enough =
    parsed_exactly (trees_of g roots w) chart₀ l₀ r chart l (flat_parsed flat roots w chart₀ l₀ r chart l o g says there short enough)

pub one_flat_outcome : OneFlatOutcome
one_flat_outcome = flat_unique

pub lodged_and_read : LodgedAndRead
lodged_and_read b bytes out₀ n e w chart₀ l₀ r r' chart chart' l l' o f =
    let (accepted, long, fits) = (flat_fits b (length out₀) n).0 e in
    let text = grammar_text (flat_grammar b) in
    let lodged : take n (buffer_after (flat_answer b (length out₀)) text out₀) ≡ text = rw (e) (take_at text (drop (length text) out₀) n (sym long)) in
    let own = own_outcome b bytes accepted w chart₀ l₀ r' chart' l' (subst (λ (x : List ℕ). FlatOutcome x (start_entries b) w chart₀ l₀ r' chart' l') lodged f) in
    one_outcome b w chart₀ l₀ r r' chart chart' l l' o own

pub corners_computed : Corners
corners_computed = record { table = all_corners; full = full_stops }

-- ---- request 8

pub chains : (b : List ℕ) (x y : ℕ) → Chains b x y
chains b x y =
    record {
      some = ((λ h. higher_leads b h), (λ (chain, c). leads_higher b c));
      short = λ e chain c. leads_short b e c;
    }

pub reasons : Reasons
reasons b p i q chain₀ r chain o =
    record {
      free = free_exactly b p i q chain₀ r chain o;
      refused = reason_refused_exactly b p i q chain₀ r chain o;
      higher = higher_exactly b p i q chain₀ r chain o;
      first = first_exactly b p i q chain₀ r chain o;
      last = last_exactly b p i q chain₀ r chain o;
    }

pub one_reason : (b : List ℕ) (p i q : ℕ) (chain₀ : List ℕ) → OneReason b p i q chain₀
one_reason b p i q chain₀ =
    record {
      answer = one_answer b p i q chain₀;
      kept = buffer_kept b p i q chain₀;
      written = λ n chain o. let w = chain_written b p i q chain₀ (Ok (Some (ByChain n))) chain o n refl in (w.chain, w.shortest, w.is_length, w.is_written);
      unfixed = any_shortest b p i q chain₀;
    }

-- ---- request 9

pub uses_of_trees : UsesOfTrees
uses_of_trees = uses_listed

pub compares : Compares
compares b w l m r h =
    let moved : (x : CompareAnswer) → (r ≡ x) ↔ Compared b w l m x =
    λ x. ((λ e. subst (Compared b w l m) e h), (λ k. compared_one b w l m r x h k)) in
    record {
      ordered = λ o. ((λ e. (ordered_exactly b w l m o).0 ((moved (Ok o)).0 e)), (λ k. (moved (Ok o)).1 ((ordered_exactly b w l m o).1 k)));
      trees = λ bytes o e. says_trees b w l m bytes o ((moved (Ok o)).0 e);
      refused = λ x. ((λ e. (compare_refused b w l m x).0 ((moved (Err x)).0 e)), (λ h. (moved (Err x)).1 ((compare_refused b w l m x).1 h)));
      no_other = λ x e. compared_numbers b w l m x ((moved (Err x)).0 e);
      one = λ r' k. compared_one b w l m r r' h k;
    }

pub swaps : (o : Order) → Swaps o
swaps o = record { negates = swapped_negates o; keeps = swapped_keeps o; answer = λ b w l m h. compared_swapped b w l m o h }

pub orders : Orders
orders b accepted =
    record {
      transitive = lower_transitive b accepted;
      irreflexive = lower_irreflexive b accepted;
      one_way = lower_one_way b accepted;
      itself = λ m p there. refl;
      back = λ m n same p there. sym (same p there);
      onward = λ l m n same also p there. same p there ∙ also p there;
      alike = lower_equal b accepted;
    }

pub answers_in_order : (b w l m n : List ℕ) → AnswersInOrder b w l m n
answers_in_order b w l m n = record { transitive = compared_below b w l m n; onward = compared_equal b w l m n; itself = compared_itself b w l }

-- ---- the marked cases

pub marked_cases : MarkedCases
marked_cases = marked_outcomes
