-- Where the lines of licensees stop.
use Rattle.std.proofs.Common.{◌≡◌, ℕ, suc, ◌+◌, ◌<◌, Bool, true, false, cond, not, ltb, codes, List, [], ◌∷◌, ◌++◌, length, map, drop, get_or, Option, Some, None, Ok, Err, refl, sym, ap, ◌∙◌, subst, append_assoc, length-append, arith, inl, inr}
use Rattle.std.specs.Prelude.{nat_le}
use Rattle.std.specs.Fmt.{decimal}
use Rattle.std.specs.List.{All, list_any, position, position_or_len}
use Rattle.std.specs.Option.{is_some, option_map, option_map_or}
use Rattle.std.specs.Result.{result_err}
use Rattle.std.specs.Str.{bytes_eq}
use Rattle.std.proofs.lemmas.Bool.{cases_lt, lt-ltb, le-ltb, le-leb, lt-leb}
use Rattle.std.proofs.Math.Seq.{get_or-append_seam}
use Rattle.std.proofs.lemmas.List.{length-map, nil_from_length}
use Rattle.text_terms.specs.Names.{is_plain}
use Rattle.form_terms.specs.Forms.{Form, Place, place, fault, row, demand, give, lines_left, rows_after, the_end, ◌>>=◌}
use Rattle.form_terms.specs.FirstFaults.{AtLine, whole, cut, next_of, first_that_applies}
use Rattle.form_terms.proofs.FormLaws.{Took, Grows, took_then, line_read, same_found, rows_read}
use Rattle.form_terms.proofs.FaultLaws.{Breaks, first, next, breaks, never_broken, RowBreaks, missing, unended, wrong, row_breaks, hindered, rows_broken, not_ended}
use Rattle.register_terms.specs.declared.fault.RegisterKind.{RegisterKind}
use Rattle.register_terms.specs.declared.fault.RegisterKind.TheVariants.{Ending, BadStatus, BadName, NameTaken, Full}
use Rattle.register_terms.specs.declared.refusal.NameRefusal.TheVariants as refusals
use Rattle.register_terms.specs.declared.edition.Edition.{Edition}
use Rattle.register_terms.specs.declared.edition.Edition.TheVariants.{Newer}
use Rattle.register_terms.specs.Enrolment.{Licensee, Enrolment, IsValid, names_of, serial_of, capacity}
use Rattle.register_terms.specs.Rules.{serial_for, kind_of, with_licensees, refusal_of}
use Rattle.register_terms.specs.RegisterText.{RegisterFault, edition_line, edition_in, header_lines, licensee_line, licensee_in, later, licensee_row, licensees_form}
use Rattle.register_terms.specs.RegisterFaults.{Begins, wrong_with, licensee_table, names_someone, edition_on, number_on}
use Rattle.register_terms.proofs.Growing.{IsWelcome, not_refused}
use Rattle.register_terms.proofs.HeaderLines.{IsHeader, edition_again}
use Rattle.register_terms.proofs.Texts.{all_nil}
use Rattle.register_terms.proofs.LicenseeLines.{IsSaid, IsSoFar, licensee_again, next_is_welcome, row_read}
use Rattle.register_terms.proofs.Beginnings.{begins_whole, header_of, same_number, small}
use Rattle.register_terms.proofs.HeaderFaults.{StopsHere, on_line}

-- ---- whether a name is taken

found_or_not : {X : Type 0} (p : X → Bool) (xs : List X) → ltb (position_or_len p xs) (length xs) ≡ list_any p xs
found_or_not p [] = refl
found_or_not {X} p (x ∷ xs) = by (p x) refl (found_or_not p xs)
  where
    next_one : (n m : ℕ) → ltb (1 + n) (suc m) ≡ ltb n m
    next_one n m = elim (cases_lt n m) [
      | inl lt ↦ lt-ltb (1 + n) (suc m) (omega (arith, lt)) ∙ sym (lt-ltb n m lt)
      | inr le ↦ le-ltb (1 + n) (suc m) (omega (arith, le)) ∙ sym (le-ltb n m le)
    ]

    by : (test : Bool) → p x ≡ test → ltb (position_or_len p xs) (length xs) ≡ list_any p xs → ltb (position_or_len p (x ∷ xs)) (length (x ∷ xs)) ≡ list_any p (x ∷ xs)
    by true is others = rw is (lt-ltb 0 (suc (length xs)) (omega arith))
    by false is others = rw is (next_one (position_or_len p xs) (length xs) ∙ others)

is_found : {X : Type 0} (p : X → Bool) (xs : List X) → is_some (position p xs) ≡ list_any p xs
is_found p xs = by (ltb (position_or_len p xs) (length xs)) ∙ found_or_not p xs
  where
    by : (b : Bool) → is_some (cond b (Some (position_or_len p xs)) None) ≡ b
    by true = refl
    by false = refl

all_first : {A : Type 0} (P : A → Type 0) (x : A) (xs : List A) → All P (x ∷ xs) → P x
all_first P x xs all = all 0 x (omega arith)

all_others : {A : Type 0} (P : A → Type 0) (x : A) (xs : List A) → All P (x ∷ xs) → All P xs
all_others P x xs all i d lt = all (suc i) d (omega (arith, lt))

taken_alike : (edition : Edition) (name : List ℕ) (past : List Licensee) → All (IsSaid edition) past
    → list_any (names_someone edition (bytes_eq name)) (map (licensee_line edition) past) ≡ list_any (bytes_eq name) (names_of past)
taken_alike edition name [] able = refl
taken_alike edition name (x ∷ past) able =
    rw (licensee_again edition x (all_first (IsSaid edition) x past able), taken_alike edition name past (all_others (IsSaid edition) x past able)) refl

-- ---- the table behind earlier licensees

front_of : Edition → Enrolment → List Licensee → List (List ℕ)
front_of edition e past = header_lines edition e ++ map (licensee_line edition) past

table_there : (edition : Edition) (e : Enrolment) (past : List Licensee) → IsValid (with_licensees e past) → (stands : AtLine)
    → wrong_with (front_of edition e past) stands ≡ first_that_applies (licensee_table edition (capacity e) (map (licensee_line edition) past) stands)
unfolding front_of
table_there edition e past valid stands =
    let low = small (with_licensees e past) valid in
    let m : number_on (codes "m ") (codes "m " ++ decimal e.bits) ≡ e.bits = on_line (codes "m ") e.bits low.bits in
    let k : number_on (codes "k ") (codes "k " ++ decimal e.dimension) ≡ e.dimension = on_line (codes "k ") e.dimension low.dimension in
    let is : edition_on (edition_line edition) ≡ edition = ap (λ (found : Option Edition). option_map_or (λ x. x) found Newer) (edition_again edition) in
    rw (m, k, is) refl

refused_by : (plain : Bool) (taken : Option ℕ) (room : Bool) (n : ℕ) (k : RegisterKind) → option_map kind_of (result_err (cond plain (serial_for n room taken) (Err refusals.BadName))) ≡ Some k
    → first_that_applies ((false, Ending) ∷ (false, BadStatus) ∷ (not plain, BadName) ∷ (is_some taken, NameTaken) ∷ (not room, Full) ∷ []) ≡ Some k
refused_by true (Some serial) room n k is = is
refused_by true None true n k is = absurd cc
refused_by true None false n k is = is
refused_by false taken room n k is = is

no_room : (n most : ℕ) → nat_le most n ≡ not (ltb n most)
no_room n most =
    elim (cases_lt n most) [
      | inl lt ↦ lt-leb most n lt ∙ sym (ap not (lt-ltb n most lt))
      | inr le ↦ le-leb most n le ∙ sym (ap not (le-ltb n most le))
    ]

refused_there : (edition : Edition) (e : Enrolment) (past : List Licensee) → IsSoFar edition e past → (text : List ℕ) (x : Licensee) (kind : RegisterKind)
    → licensee_in edition text ≡ Some x → refusal_of (with_licensees e past) x.name ≡ Some kind → wrong_with (front_of edition e past) (whole text) ≡ Some kind
refused_there edition e past so_far text x kind said refused =
    let names : List (List ℕ) = names_of past in
    let lines : List (List ℕ) = map (licensee_line edition) past in
    let taken : list_any (names_someone edition (bytes_eq x.name)) lines ≡ is_some (serial_of names x.name) = taken_alike edition x.name past so_far.able ∙ sym (is_found (bytes_eq x.name) names) in
    let full : nat_le (capacity e) (length lines) ≡ not (ltb (length past) (capacity e)) = ap (λ (n : ℕ). nat_le (capacity e) n) (length-map past (licensee_line edition)) ∙ no_room (length past) (capacity e) in
    table_there edition e past so_far.valid (whole text) ∙ rw (said, taken, full) (refused_by (is_plain x.name) (serial_of names x.name) (ltb (length past) (capacity e)) (length past) kind refused)

-- ---- lines that go on

record Prefix (edition : Edition) (past : List Licensee) (text : List ℕ) (licensees : List Licensee) : Type 0 where
  x : Licensee
  more : List Licensee
  are : licensees ≡ past ++ x ∷ more
  line : licensee_line edition x ≡ text

same_licensee : (edition : Edition) (x y : Licensee) → IsSaid edition x → IsSaid edition y → licensee_line edition x ≡ licensee_line edition y → x ≡ y
same_licensee edition x y x_able y_able same =
    some_is x y (sym (licensee_again edition x x_able) ∙ ap (licensee_in edition) same ∙ licensee_again edition y y_able)
  where
    some_is : (x y : Licensee) → (let o : Option Licensee = Some x in o) ≡ Some y → x ≡ y
    some_is x y is = cc

prefix_of : (edition : Edition) (past licensees : List Licensee) (text : List ℕ) (rest : List (List ℕ)) → All (IsSaid edition) past → All (IsSaid edition) licensees
    → map (licensee_line edition) licensees ≡ map (licensee_line edition) past ++ text ∷ rest → Prefix edition past text licensees
prefix_of edition [] [] text rest able also is = absurd cc
prefix_of edition [] (x ∷ licensees) text rest able also is = record { x = x; more = licensees; are = refl; line = cc }
prefix_of edition (y ∷ past) [] text rest able also is = absurd cc
prefix_of edition (y ∷ past) (x ∷ licensees) text rest able also is =
    let one : licensee_line edition x ≡ licensee_line edition y = cc in
    let same : x ≡ y = same_licensee edition x y (all_first (IsSaid edition) x licensees also) (all_first (IsSaid edition) y past able) one in
    let others = prefix_of edition past licensees text rest (all_others (IsSaid edition) y past able) (all_others (IsSaid edition) x licensees also) cc in
    let grown : x ∷ licensees ≡ y ∷ past ++ others.x ∷ others.more = ap (λ (z : Licensee). z ∷ licensees) same ∙ ap (λ (xs : List Licensee). y ∷ xs) others.are in
    record { x = others.x; more = others.more; are = grown; line = others.line }

-- who stands on a line that goes on, and may be enrolled
record GoesOn (edition : Edition) (e : Enrolment) (past : List Licensee) (text : List ℕ) : Type 0 where
  x : Licensee
  says : licensee_in edition text ≡ Some x
  welcome : refusal_of (with_licensees e past) x.name ≡ None

same_edition : (x y : Edition) → edition_line x ≡ edition_line y → x ≡ y
same_edition x y same = some_is x y (sym (edition_again x) ∙ ap edition_in same ∙ edition_again y)
  where
    some_is : (x y : Edition) → (let o : Option Edition = Some x in o) ≡ Some y → x ≡ y
    some_is x y is = cc

goes_on : (edition : Edition) (e : Enrolment) (past : List Licensee) (text : List ℕ) → IsSoFar edition e past → Begins (front_of edition e past ++ text ∷ []) → GoesOn edition e past text
unfolding front_of
goes_on edition e past text so_far begins =
    let h = header_of ((header_lines edition e ++ map (licensee_line edition) past) ++ text ∷ []) begins in
    let there = small h.register h.valid in
    let here = small (with_licensees e past) so_far.valid in
    let same : h.edition ≡ edition = same_edition h.edition edition (ap (λ (lines : List (List ℕ)). get_or lines 0 []) h.are) in
    let bits : h.register.bits ≡ e.bits = same_number (codes "m ") h.register.bits e.bits there.bits here.bits (ap (λ (lines : List (List ℕ)). get_or lines 1 []) h.are) in
    let dimension : h.register.dimension ≡ e.dimension = same_number (codes "k ") h.register.dimension e.dimension there.dimension here.dimension (ap (λ (lines : List (List ℕ)). get_or lines 2 []) h.are) in
    let behind : map (licensee_line h.edition) h.register.licensees ≡ (map (licensee_line edition) past ++ text ∷ []) ++ h.more = ap (λ (lines : List (List ℕ)). drop 5 lines) h.are in
    let lines : map (licensee_line edition) h.register.licensees ≡ map (licensee_line edition) past ++ text ∷ h.more =
    ap (λ (n : Edition). map (licensee_line n) h.register.licensees) (sym same) ∙ behind ∙ append_assoc (map (licensee_line edition) past) (text ∷ []) h.more in
    let able : All (IsSaid edition) h.register.licensees = subst (λ (n : Edition). All (IsSaid n) h.register.licensees) same h.able in
    let p = prefix_of edition past h.register.licensees text h.more so_far.able able lines in
    let whole_list : IsValid (with_licensees h.register (past ++ p.x ∷ p.more)) = subst (λ (xs : List Licensee). IsValid (with_licensees h.register xs)) p.are h.valid in
    let next_one = next_is_welcome h.register past p.x p.more whole_list in
    let room : capacity h.register ≡ capacity e = rw (bits, dimension) refl in
    let welcome : IsWelcome (with_licensees e past) p.x.name = record { plain = next_one.plain; new = next_one.new; room = omega (arith, next_one.room, room) } in
    record {
      x = p.x;
      says = ap (licensee_in edition) (sym p.line) ∙ licensee_again edition p.x (subst (IsSaid edition) (get_or-append_seam past p.x p.more p.x) (subst (λ (xs : List Licensee). IsSaid edition (get_or xs (length past) p.x)) p.are (able (length past) p.x (omega (arith, ap (λ (xs : List Licensee). length xs) p.are, length-append past (p.x ∷ p.more))))));
      welcome = not_refused (with_licensees e past) p.x.name welcome;
    }

-- ---- the rows

-- the front of the lines behind earlier licensees, and where the form stands there
record Stands (edition : Edition) (e : Enrolment) (past : List Licensee) (lines : List (List ℕ)) (tail : List ℕ) (at : Place) : Type 0 where
  so_far : IsSoFar edition e past
  took : Took (place 0 lines tail) (front_of edition e past) at

begins_there : (edition : Edition) (e : Enrolment) (past : List Licensee) → IsSoFar edition e past → Begins (front_of edition e past)
unfolding front_of
begins_there edition e past so_far = begins_whole edition (with_licensees e past) so_far.valid so_far.able

-- a licensee's line with a fault
line_stops : (edition : Edition) (e : Enrolment) (past : List Licensee) (lines : List (List ℕ)) (tail : List ℕ) (at : Place) (f : RegisterFault) → Stands edition e past lines tail at
    → (text : List ℕ) (more : List (List ℕ)) → at.lines ≡ text ∷ more → f.line ≡ at.number + 1 → wrong_with (front_of edition e past) (whole text) ≡ Some f.kind
    → (GoesOn edition e past text → ⊥) → StopsHere lines tail f
line_stops edition e past lines tail at f stands text more here number kind never = record {
  front = front_of edition e past;
  back = at.lines;
  are = stands.took.lines_are;
  number = omega (arith, stands.took.number_is, number);
  begins = begins_there edition e past stands.so_far;
  stops = λ other others there more_of_it.
      let same : text ≡ other = cc in
      never (subst (GoesOn edition e past) (sym same) (goes_on edition e past other stands.so_far more_of_it));
  first = ap (λ (s : AtLine). wrong_with (front_of edition e past) s) (rw here refl) ∙ kind;
}

row_halts : (edition : Edition) (e : Enrolment) (past : List Licensee) (lines : List (List ℕ)) (tail : List ℕ) (at : Place) (f : RegisterFault) → Stands edition e past lines tail at → 0 < length at.lines
    → RowBreaks later (licensee_in edition) at f → StopsHere lines tail f
row_halts edition e past lines tail at f stands some (missing none no_tail is) = absurd (omega (arith, some, ap (λ (ls : List (List ℕ)). length ls) none))
row_halts edition e past lines tail at f stands some (unended b bytes none tail_is is) = absurd (omega (arith, some, ap (λ (ls : List (List ℕ)). length ls) none))
row_halts edition e past lines tail at f stands some (wrong text more here unsaid is) =
    line_stops edition e past lines tail at f stands text more here (ap (λ (g : RegisterFault). g.line) is)
    (table_there edition e past stands.so_far.valid (whole text) ∙ rw unsaid refl ∙ sym (ap (λ (g : RegisterFault). Some g.kind) is))
    (λ goes. let says = goes.says in absurd (cc (says, unsaid)))

row_stops_at : (edition : Edition) (e : Enrolment) (past : List Licensee) (lines : List (List ℕ)) (tail : List ℕ) (at : Place) (f : RegisterFault) → Stands edition e past lines tail at → 0 < length at.lines
    → Breaks {B = Licensee} (row later (licensee_in edition)) (λ x. demand (refusal_of (with_licensees e past) x.name) >>= λ _. give x) at f → StopsHere lines tail f
row_stops_at edition e past lines tail at f stands some (first halt) = row_halts edition e past lines tail at f stands some (row_breaks later halt)
row_stops_at edition e past lines tail at f stands some (next x between done behind) = by (breaks behind)
  where
    by : Breaks {B = Licensee} (demand (refusal_of (with_licensees e past) x.name)) (λ _. give x) between f → StopsHere lines tail f
    by (first halt) =
        let line = line_read later done in
        let why = hindered (refusal_of (with_licensees e past) x.name) halt in
        let refused = why.is in
        line_stops edition e past lines tail at f stands line.text between.lines line.took.lines_are (why.line_is ∙ line.took.number_is)
        (refused_there edition e past stands.so_far line.text x f.kind line.says why.is)
        (λ goes.
        let says = goes.says in
        let line_says = line.says in
        let same : goes.x ≡ x = cc in
        let free : refusal_of (with_licensees e past) x.name ≡ None = ap (λ (y : Licensee). refusal_of (with_licensees e past) y.name) (sym same) ∙ goes.welcome in
        absurd (cc (refused, free)))
    by (next u after met never) = never_broken x after f never

-- bytes behind the last line
tail_stops : (edition : Edition) (e : Enrolment) (past : List Licensee) (lines : List (List ℕ)) (tail : List ℕ) (at : Place) (f : RegisterFault) → Stands edition e past lines tail at
    → at.lines ≡ [] → 0 < length at.tail → f ≡ fault (at.number + 1) Ending → StopsHere lines tail f
tail_stops edition e past lines tail at f stands none some is = record {
  front = front_of edition e past;
  back = at.lines;
  are = stands.took.lines_are;
  number = omega (arith, stands.took.number_is, ap (λ (g : RegisterFault). g.line) is);
  begins = begins_there edition e past stands.so_far;
  stops = λ text more there goes. absurd (cc (none, there));
  first = cut_there at.lines tail none (subst (λ (bytes : List ℕ). 0 < length bytes) stands.took.tail_is some) ∙ sym (ap (λ (g : RegisterFault). Some g.kind) is);
}
  where
    cut_there : (ls : List (List ℕ)) (bytes : List ℕ) → ls ≡ [] → 0 < length bytes → wrong_with (front_of edition e past) (next_of ls bytes) ≡ Some Ending
    cut_there ls [] nil more = absurd (omega (arith, more))
    cut_there ls (b ∷ bytes) nil more = rw nil (table_there edition e past stands.so_far.valid cut)

row_breaks_there : (edition : Edition) (e : Enrolment) (past : List Licensee) (lines : List (List ℕ)) (tail : List ℕ) (at : Place) (f : RegisterFault) → Stands edition e past lines tail at → 0 < length at.lines
    → licensee_row edition e past at ≡ Err f → StopsHere lines tail f
unfolding licensee_row
row_breaks_there edition e past lines tail at f stands some is = row_stops_at edition e past lines tail at f stands some (breaks is)

record Counted (at from : Place) (count : ℕ) : Type 0 where
  many : count ≡ length at.lines
  same : at ≡ from

counted_lines : (at from : Place) (count : ℕ) → (let form : Form RegisterKind ℕ = lines_left in form at) ≡ Ok (count, from) → Counted at from count
unfolding lines_left
counted_lines at from count is = let g = same_found {K = RegisterKind} is in record { many = sym g.is; same = g.same }

never_uncounted : {A : Type 0} (at : Place) (f : RegisterFault) → (let form : Form RegisterKind ℕ = lines_left in form at) ≡ Err f → A
unfolding lines_left
never_uncounted at f is = absurd cc

front_by : (edition : Edition) (e : Enrolment) (more : List Licensee) (lines : List (List ℕ)) (tail : List ℕ) (at between : Place)
    → Took (place 0 lines tail) (header_lines edition e) at → Took at (map (licensee_line edition) more) between → Took (place 0 lines tail) (front_of edition e more) between
unfolding front_of
front_by edition e more lines tail at between header rows = took_then header rows

-- what stands behind the header
pub licensees_stop : (edition : Edition) (e : Enrolment) (lines : List (List ℕ)) (tail : List ℕ) (at : Place) (f : RegisterFault) → IsHeader edition e (place 0 lines tail) at
    → licensees_form edition e [] at ≡ Err f → StopsHere lines tail f
unfolding licensees_form
licensees_stop edition e lines tail at f head is = by_count (breaks is)
  where
    start : IsSoFar edition e []
    start = record { valid = subst IsValid (ap (with_licensees e) head.nobody) head.valid; able = all_nil (IsSaid edition) }

    grown : (past : List Licensee) (x : Licensee) (from after : Place) → IsSoFar edition e past → licensee_row edition e past from ≡ Ok (x, after) → Grows (licensee_line edition) (IsSoFar edition e) past x from after
    grown past x from after keeps one = row_read edition e past x from after keeps one

    by_end : (count : ℕ) (found : List Licensee) (between : Place) → count ≡ length at.lines → rows_after [] count (licensee_row edition e) at ≡ Ok (found, between)
        → Breaks {B = Enrolment} (the_end Ending) (λ _. give (with_licensees e found)) between f → StopsHere lines tail f
    by_end count found between many done (first halt) =
        let rows = rows_read (licensee_row edition e) (licensee_line edition) (IsSoFar edition e) grown [] count found at between start done in
        let over = not_ended halt in
        let all : length at.lines ≡ length (map (licensee_line edition) rows.more) + length between.lines = ap (λ (ls : List (List ℕ)). length ls) rows.took.lines_are ∙ length-append (map (licensee_line edition) rows.more) between.lines in
        let none : between.lines ≡ [] = nil_from_length between.lines (omega (arith, all, many, rows.long, length-map rows.more (licensee_line edition))) in
        let stands : Stands edition e rows.more lines tail between = record { so_far = subst (IsSoFar edition e) rows.are rows.keeps; took = front_by edition e rows.more lines tail at between head.took rows.took } in
        tail_stops edition e rows.more lines tail between f stands none (omega (arith, over.left, ap (λ (ls : List (List ℕ)). length ls) none)) over.fault_is
    by_end count found between many done (next u after ended never) = never_broken (with_licensees e found) after f never

    by_rows : (count : ℕ) (from : Place) → count ≡ length at.lines → at ≡ from
        → Breaks {B = Enrolment} (rows_after [] count (licensee_row edition e)) (λ found. the_end Ending >>= λ _. give (with_licensees e found)) from f → StopsHere lines tail f
    by_rows count from many same (first halt) =
        let rows = rows_broken (licensee_row edition e) (licensee_line edition) (IsSoFar edition e) grown [] count from f start halt in
        let took : Took at (map (licensee_line edition) rows.more) rows.between = subst (λ (p : Place). Took p (map (licensee_line edition) rows.more) rows.between) (sym same) rows.took in
        let all : length at.lines ≡ length (map (licensee_line edition) rows.more) + length rows.between.lines = ap (λ (ls : List (List ℕ)). length ls) took.lines_are ∙ length-append (map (licensee_line edition) rows.more) rows.between.lines in
        let stands : Stands edition e rows.more lines tail rows.between = record { so_far = rows.keeps; took = front_by edition e rows.more lines tail at rows.between head.took took } in
        row_breaks_there edition e rows.more lines tail rows.between f stands (omega (arith, all, many, rows.few, length-map rows.more (licensee_line edition))) rows.broken
    by_rows count from many same (next found between done behind) =
        by_end count found between many (subst (λ (p : Place). rows_after [] count (licensee_row edition e) p ≡ Ok (found, between)) (sym same) done) (breaks behind)

    by_count : Breaks {B = Enrolment} lines_left (λ count. rows_after [] count (licensee_row edition e) >>= λ found. the_end Ending >>= λ _. give (with_licensees e found)) at f → StopsHere lines tail f
    by_count (first halt) = never_uncounted at f halt
    by_count (next count from counts behind) =
        let c = counted_lines at from count counts in
        by_rows count from c.many c.same (breaks behind)
