-- The refusals 1 to 8 of a grammar, a definition to a line of the table (01, "Refused because of the input"). There is no refusal 6 (02, [3]).
use Rattle.std.specs.Prelude.{ℕ, ◌+◌, min, Bool, not, ◌&&◌, ◌||◌, List, [], ◌∷◌, leb, ltb, eqb, length}
use Rattle.classes.specs.Classes.{is_class, same_argument}
use Rattle.common.specs.Below.{all_below, any_below}
use Rattle.refusal.specs.Verdict.{refuse_if, and_then, first_refusal, in_order, Verdict}
use Rattle.refusal.specs.declared.Fault.TheVariants.{Short, Header, Count, Length, Name, Absent, Repeated}
use Rattle.layout.specs.Layout.{byte_at, sorts, productions, classes, declarations, start_sort, argument_count_at, range_count_at, argument_count, range_count, bodies_at, production_at, argument_at, result_sort, argument, declaration_at, kind, first, second, needed_length}
use Rattle.layout.specs.Limits.{sort_limit, production_limit, class_limit, argument_limit, range_limit, kind_limit, pair_kind_limit, header_length}

-- x is not one of low, low + 1, … high
abbrev pub outside : ℕ → ℕ → ℕ → Bool
outside low high x = ltb x low || ltb high x

-- 1, first half: fewer than 6 bytes
unfoldable pub short_header : List ℕ → Verdict
short_header b = refuse_if (ltb (length b) header_length) Short (length b)

-- 2: bytes 0, 1, 2, 4 or 5 outside their range; the place is the lowest such byte
abbrev pub header_lines : ℕ → ℕ → ℕ → ℕ → ℕ → List Verdict
header_lines sorts productions classes start last =
    refuse_if (outside 1 sort_limit sorts) Header 0
    ∷ refuse_if (outside 1 production_limit productions) Header 1
    ∷ refuse_if (ltb class_limit classes) Header 2
    ∷ refuse_if (leb sorts start) Header 4
    ∷ refuse_if (ltb 0 last) Header 5
    ∷ []

unfoldable pub header_bytes : ℕ → ℕ → ℕ → ℕ → ℕ → Verdict
header_bytes sorts productions classes start last = in_order (header_lines sorts productions classes start last)

unfoldable pub bad_header : List ℕ → Verdict
bad_header b = header_bytes (sorts b) (productions b) (classes b) (start_sort b) (byte_at b 5)

-- 1, second half: fewer than 6 + R + K bytes
unfoldable pub short_contents : List ℕ → Verdict
short_contents b = refuse_if (ltb (length b) (bodies_at b)) Short (length b)

-- 3: an argument or range count too large; the place is the lowest such byte
unfoldable pub bad_argument_count : List ℕ → ℕ → Verdict
bad_argument_count b p = refuse_if (ltb argument_limit (argument_count b p)) Count (argument_count_at b p)

unfoldable pub bad_range_count : List ℕ → ℕ → Verdict
bad_range_count b k = refuse_if (ltb range_limit (range_count b k)) Count (range_count_at b k)

abbrev pub bad_argument_counts : List ℕ → Verdict
bad_argument_counts b = first_refusal (productions b) (bad_argument_count b)

abbrev pub bad_range_counts : List ℕ → Verdict
bad_range_counts b = first_refusal (classes b) (bad_range_count b)

-- 4: the length is not the one called for; the place is the smaller of the two
unfoldable pub bad_length : List ℕ → Verdict
bad_length b = refuse_if (not (eqb (length b) (needed_length b))) Length (min (length b) (needed_length b))

-- an argument byte that names something: a sort, or a class
unfoldable pub names_argument : List ℕ → ℕ → Bool
names_argument b x = ltb x (sorts b) || is_class b x

-- 5: a result or argument byte that names nothing; the place is that byte
unfoldable pub bad_argument : List ℕ → ℕ → ℕ → Verdict
bad_argument b p i = refuse_if (not (names_argument b (argument b p i))) Name (argument_at b p i)

abbrev pub bad_arguments : List ℕ → ℕ → Verdict
bad_arguments b p = first_refusal (argument_count b p) (bad_argument b p)

unfoldable pub bad_production : List ℕ → ℕ → Verdict
bad_production b p = and_then (refuse_if (leb (sorts b) (result_sort b p)) Name (production_at b p)) (bad_arguments b p)

abbrev pub bad_productions : List ℕ → Verdict
bad_productions b = first_refusal (productions b) (bad_production b)

-- a declaration of this kind is of a whole group: the productions from the first that it names to the second (02, [2])
unfoldable pub is_group : ℕ → Bool
is_group kind = ltb pair_kind_limit kind && leb kind kind_limit

-- 7: a kind that is not 1 to 7, or a production that isn't there, the place is that byte; or a group whose first is above its second, the place is the first's byte
abbrev pub declaration_lines : ℕ → ℕ → ℕ → ℕ → ℕ → List Verdict
declaration_lines at productions kind first second =
    refuse_if (outside 1 kind_limit kind) Absent at
    ∷ refuse_if (leb productions first) Absent (at + 1)
    ∷ refuse_if (leb productions second) Absent (at + 2)
    ∷ refuse_if (is_group kind && ltb second first) Absent (at + 1)
    ∷ []

unfoldable pub declaration_bytes : ℕ → ℕ → ℕ → ℕ → ℕ → Verdict
declaration_bytes at productions kind first second = in_order (declaration_lines at productions kind first second)

unfoldable pub bad_declaration : List ℕ → ℕ → Verdict
bad_declaration b d = declaration_bytes (declaration_at b d) (productions b) (kind b d) (first b d) (second b d)

abbrev pub bad_declarations : List ℕ → Verdict
bad_declarations b = first_refusal (declarations b) (bad_declaration b)

-- two productions are equal: the results are, and each argument is the same (02, [5])
unfoldable pub same_production : List ℕ → ℕ → ℕ → Bool
same_production b p q =
    eqb (result_sort b p) (result_sort b q) && eqb (argument_count b p) (argument_count b q) && all_below (argument_count b p) (λ i. same_argument b (argument b p i) (argument b q i))

-- 8: a production equal to an earlier one; the place is the result byte of the first such
unfoldable pub repeated_production : List ℕ → ℕ → Verdict
repeated_production b p = refuse_if (any_below p (same_production b p)) Repeated (production_at b p)

abbrev pub repeated_productions : List ℕ → Verdict
repeated_productions b = first_refusal (productions b) (repeated_production b)

-- 1 to 4: the frame of the bytes
abbrev pub frame_lines : List ℕ → List Verdict
frame_lines b = short_header b ∷ bad_header b ∷ short_contents b ∷ bad_argument_counts b ∷ bad_range_counts b ∷ bad_length b ∷ []

unfoldable pub frame_check : List ℕ → Verdict
frame_check b = in_order (frame_lines b)

-- 5 to 8: what stands in the frame
abbrev pub bodies_lines : List ℕ → List Verdict
bodies_lines b = bad_productions b ∷ bad_declarations b ∷ repeated_productions b ∷ []

unfoldable pub bodies_check : List ℕ → Verdict
bodies_check b = in_order (bodies_lines b)
