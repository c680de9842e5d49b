-- Where forms break, and that a text has one first fault.
use Rattle.std.proofs.Common.{◌≡◌, ℕ, zero, suc, ◌+◌, ◌-◌, ◌<◌, ◌≤◌, Bool, true, false, cond, eqb, List, [], ◌∷◌, ◌++◌, length, map, take, drop, get_or, Option, Some, None, Result, Ok, Err, refl, sym, ap, ◌∙◌, subst, append_assoc, append-nil, length-append, arith, inl, inr}
use Rattle.std.proofs.lemmas.Bool.{cases_order, ne_eqb, cond-false}
use Rattle.std.proofs.lemmas.List.{take_at, drop_at, take_more}
use Rattle.std.proofs.Math.Seq.{drop-cons}
use Rattle.form_terms.specs.declared.fault.LineFault.{LineFault}
use Rattle.form_terms.specs.declared.fault.RowKinds.{RowKinds}
use Rattle.form_terms.specs.TextLines.{ended_lines, rest_of, number_after}
use Rattle.form_terms.specs.Forms.{Place, place, Form, fault, then_at, followed, ◌>>=◌, give, require, demand, lack_of, next_line, said, row, number_row, rows_after, the_end}
use Rattle.form_terms.specs.FirstFaults.{AtLine, whole, next_of, at_line, lines_before, IsFirstFault}
use Rattle.form_terms.proofs.FormLaws.{Took, Grows, took_nothing, took_then, line_read}

-- ---- one form behind the other

fault_is : {K A : Type 0} (x y : LineFault K) → (let r : Result A (LineFault K) = Err x in r) ≡ Err y → x ≡ y
fault_is x y is = cc

pub data Breaks {K A B : Type 0} (form : Form K A) (f : A → Form K B) (at : Place) (e : LineFault K) : Type 0 where
  first : form at ≡ Err e → Breaks form f at e
  next : (x : A) (between : Place) → form at ≡ Ok (x, between) → f x between ≡ Err e → Breaks form f at e

breaks_by : {K A B : Type 0} (form : Form K A) (f : A → Form K B) (at : Place) (e : LineFault K) (r : Result (A × Place) (LineFault K)) → form at ≡ r → then_at r f ≡ Err e → Breaks form f at e
breaks_by form f at e (Ok x) is broken = next x.0 x.1 is broken
breaks_by {K} {A} {B} form f at e (Err refusal) is broken = first (is ∙ ap (λ (f : LineFault K). Err f) (fault_is {A = B × Place} refusal e broken))

pub breaks : {K A B : Type 0} {form : Form K A} {f : A → Form K B} {at : Place} {e : LineFault K} → (form >>= f) at ≡ Err e → Breaks form f at e
unfolding followed
breaks {K} {A} {B} {form} {f} {at} {e} is = breaks_by form f at e (form at) refl is

-- ---- simple forms

pub never_broken : {K A B : Type 0} (x : A) (at : Place) (e : LineFault K) → (let form : Form K A = give x in form at) ≡ Err e → B
unfolding give
never_broken x at e is = absurd cc

pub record Unmet {K : Type 0} (is_so : Bool) (kind : K) (at : Place) (e : LineFault K) : Type 0 where
  pub is : is_so ≡ false
  pub fault_is : e ≡ fault at.number kind

unmet_by : {K : Type 0} (is_so : Bool) (kind : K) (at : Place) (e : LineFault K) → cond {A = Result (Unit {0} × Place) (LineFault K)} is_so (Ok (tt, at)) (Err (fault at.number kind)) ≡ Err e → Unmet is_so kind at e
unmet_by true kind at e is = absurd cc
unmet_by false kind at e is = record { is = refl; fault_is = cc }

pub unmet : {K : Type 0} {is_so : Bool} {kind : K} {at : Place} {e : LineFault K} → require is_so kind at ≡ Err e → Unmet is_so kind at e
unfolding require
unmet {K} {is_so} {kind} {at} {e} is = unmet_by is_so kind at e is

pub record Hindered {K : Type 0} (hindrance : Option K) (at : Place) (e : LineFault K) : Type 0 where
  pub is : hindrance ≡ Some e.kind
  pub line_is : e.line ≡ at.number

pub hindered : {K : Type 0} (hindrance : Option K) {at : Place} {e : LineFault K} → demand hindrance at ≡ Err e → Hindered hindrance at e
unfolding demand
hindered None is = absurd cc
hindered {K} (Some kind) {at} {e} is =
    let same : fault at.number kind ≡ e = cc in
    record { is = ap (λ (f : LineFault K). Some f.kind) same; line_is = sym (ap (λ (f : LineFault K). f.line) same) }

-- ---- lines

-- why a line is not what belongs there
pub data RowBreaks {K A : Type 0} (kinds : RowKinds K) (reads : List ℕ → Option A) (at : Place) (e : LineFault K) : Type 0 where
  missing : at.lines ≡ [] → at.tail ≡ [] → e ≡ fault (at.number + 1) kinds.missing → RowBreaks kinds reads at e
  unended : (b : ℕ) (bytes : List ℕ) → at.lines ≡ [] → at.tail ≡ b ∷ bytes → e ≡ fault (at.number + 1) kinds.unended → RowBreaks kinds reads at e
  wrong : (text : List ℕ) (more : List (List ℕ)) → at.lines ≡ text ∷ more → reads text ≡ None → e ≡ fault (at.number + 1) kinds.wrong → RowBreaks kinds reads at e

said_breaks : {K A : Type 0} (kind : K) (o : Option A) (at : Place) (e : LineFault K) → said kind o at ≡ Err e → (o ≡ None) × (e ≡ fault at.number kind)
unfolding said
said_breaks kind (Some x) at e is = absurd cc
said_breaks kind None at e is = (refl, cc)

row_by : {K A : Type 0} (kinds : RowKinds K) (reads : List ℕ → Option A) (number : ℕ) (lines : List (List ℕ)) (tail : List ℕ) (e : LineFault K)
    → row kinds reads (place number lines tail) ≡ Err e → RowBreaks kinds reads (place number lines tail) e
unfolding row next_line followed
row_by {K} kinds reads number [] [] e is = missing refl refl cc
row_by {K} {A} kinds reads number [] (b ∷ tail) e is =
    let some : eqb (length (b ∷ tail)) 0 ≡ false = ne_eqb (length (b ∷ tail)) 0 (λ none. omega (arith, none)) in
    let bytes_left : lack_of kinds.missing kinds.unended (b ∷ tail) ≡ kinds.unended = cond-false (eqb (length (b ∷ tail)) 0) kinds.missing kinds.unended some in
    unended b tail refl refl (sym (fault_is {A = A × Place} (fault (number + 1) (lack_of kinds.missing kinds.unended (b ∷ tail))) e is) ∙ ap (λ (k : K). fault (number + 1) k) bytes_left)
row_by kinds reads number (text ∷ lines) tail e is =
    let by = said_breaks kinds.wrong (reads text) (place (number + 1) lines tail) e is in
    wrong text lines refl by.0 by.1

pub row_breaks : {K A : Type 0} (kinds : RowKinds K) {reads : List ℕ → Option A} {at : Place} {e : LineFault K} → row kinds reads at ≡ Err e → RowBreaks kinds reads at e
row_breaks kinds {reads} {at} {e} is = row_by kinds reads at.number at.lines at.tail e is

-- why a line is not the word and the number that belong there
pub data NumberBreaks {K : Type 0} (kinds : RowKinds K) (word : List ℕ) (allowed : ℕ → Bool) (broken : K) (at : Place) (e : LineFault K) : Type 0 where
  no_number : RowBreaks kinds (number_after word) at e → NumberBreaks kinds word allowed broken at e
  refused : (text : List ℕ) (more : List (List ℕ)) (n : ℕ) → at.lines ≡ text ∷ more → number_after word text ≡ Some n → allowed n ≡ false → e ≡ fault (at.number + 1) broken → NumberBreaks kinds word allowed broken at e

pub number_breaks : {K : Type 0} (kinds : RowKinds K) (word : List ℕ) (allowed : ℕ → Bool) (broken : K) (at : Place) (e : LineFault K) → number_row kinds word allowed broken at ≡ Err e → NumberBreaks kinds word allowed broken at e
unfolding number_row
number_breaks {K} kinds word allowed broken at e is = by (breaks is)
  where
    by_rule : (n : ℕ) (between : Place) → row kinds (number_after word) at ≡ Ok (n, between) → Breaks (require (allowed n) broken) (λ _. give n) between e → NumberBreaks kinds word allowed broken at e
    by_rule n between found (first halt) =
        let line = line_read kinds found in
        let un = unmet halt in
        refused line.text between.lines n line.took.lines_are line.says un.is (un.fault_is ∙ ap (λ (l : ℕ). fault l broken) line.took.number_is)
    by_rule n between found (next x after done never) = never_broken n after e never

    by : Breaks (row kinds (number_after word)) (λ n. require (allowed n) broken >>= λ _. give n) at e → NumberBreaks kinds word allowed broken at e
    by (first halt) = no_number (row_breaks kinds halt)
    by (next n between found behind) = by_rule n between found (breaks behind)

-- ---- rows

-- the row that is broken, and what stood before it
pub record RowsBreak {K A : Type 0} (form : List A → Form K A) (spelling : A → List ℕ) (Keeps : List A → Type 0) (past : List A) (count : ℕ) (at : Place) (e : LineFault K) : Type 0 where
  pub more : List A
  pub few : length more < count
  pub between : Place
  pub took : Took at (map spelling more) between
  pub keeps : Keeps (past ++ more)
  pub broken : form (past ++ more) between ≡ Err e

rows_break_by : {K A : Type 0} (form : List A → Form K A) (spelling : A → List ℕ) (Keeps : List A → Type 0)
    → ((past : List A) (x : A) (at after : Place) → Keeps past → form past at ≡ Ok (x, after) → Grows spelling Keeps past x at after)
    → (past : List A) (count : ℕ) (at : Place) (e : LineFault K) → Keeps past
    → ((x : A) (between : Place) → Keeps (past ++ x ∷ []) → rows_after (past ++ x ∷ []) count form between ≡ Err e → RowsBreak form spelling Keeps (past ++ x ∷ []) count between e)
    → Breaks (form past) (λ x. rows_after (past ++ x ∷ []) count form) at e → RowsBreak form spelling Keeps past (suc count) at e
rows_break_by form spelling Keeps one past count at e keeps again (first halt) =
    record { more = []; few = omega arith; between = at; took = took_nothing at; keeps = subst Keeps (sym (append-nil past)) keeps; broken = rw (append-nil past) halt }
rows_break_by {K} {A} form spelling Keeps one past count at e keeps again (next x between found behind) =
    let grown = one past x at between keeps found in
    let rest = again x between grown.keeps behind in
    let same : (past ++ x ∷ []) ++ rest.more ≡ past ++ x ∷ rest.more = append_assoc past (x ∷ []) rest.more in
    record {
      more = x ∷ rest.more;
      few = omega (arith, rest.few);
      between = rest.between;
      took = took_then grown.took rest.took;
      keeps = subst Keeps same rest.keeps;
      broken = subst (λ (xs : List A). form xs rest.between ≡ Err e) same rest.broken;
    }

pub rows_broken : {K A : Type 0} (form : List A → Form K A) (spelling : A → List ℕ) (Keeps : List A → Type 0)
    → ((past : List A) (x : A) (at after : Place) → Keeps past → form past at ≡ Ok (x, after) → Grows spelling Keeps past x at after)
    → (past : List A) (count : ℕ) (at : Place) (e : LineFault K) → Keeps past → rows_after past count form at ≡ Err e → RowsBreak form spelling Keeps past count at e
unfolding rows_after
rows_broken {K} {A} form spelling Keeps one past zero at e keeps is = never_broken past at e is
rows_broken {K} {A} form spelling Keeps one past (suc count) at e keeps is =
    rows_break_by form spelling Keeps one past count at e keeps (λ x between kept behind. rows_broken form spelling Keeps one (past ++ x ∷ []) count between e kept behind) (breaks is)

-- ---- one first fault

-- a text of the kind begins with these lines and goes not on
pub record Stops {K : Type 0} (Begins : List (List ℕ) → Type 0) (table : List (List ℕ) → AtLine → Option K) (lines : List (List ℕ)) (tail : List ℕ) (e : LineFault K) : Type 0 where
  pub front : List (List ℕ)
  pub back : List (List ℕ)
  pub are : lines ≡ front ++ back
  pub number : e.line ≡ length front + 1
  pub begins : Begins front
  pub stops : (text : List ℕ) (more : List (List ℕ)) → back ≡ text ∷ more → Begins (front ++ text ∷ []) → ⊥
  pub first : table front (next_of back tail) ≡ Some e.kind

whole_next : (lines : List (List ℕ)) (tail text : List ℕ) → next_of lines tail ≡ whole text → (more : List (List ℕ)) × (lines ≡ text ∷ more)
whole_next (here ∷ lines) tail text is = (lines, ap (λ (t : List ℕ). t ∷ lines) (same here text is))
  where
    same : (x y : List ℕ) → whole x ≡ whole y → x ≡ y
    same x y is = cc
whole_next [] (b ∷ tail) text is = absurd cc
whole_next [] [] text is = absurd cc

pub first_fault : {K : Type 0} (Begins : List (List ℕ) → Type 0) (table : List (List ℕ) → AtLine → Option K) (bytes : List ℕ) (e : LineFault K) → Stops Begins table (ended_lines bytes) (rest_of bytes) e → IsFirstFault Begins table bytes e
first_fault Begins table bytes e at =
    let n : e.line - 1 ≡ length at.front = omega (arith, at.number) in
    let before : lines_before bytes e.line ≡ at.front = rw (n, at.are) (take_at at.front at.back (length at.front) refl) in
    let behind : drop (e.line - 1) (ended_lines bytes) ≡ at.back = rw (n, at.are) (drop_at at.front at.back (length at.front) refl) in
    let here : at_line bytes e.line ≡ next_of at.back (rest_of bytes) = ap (λ (lines : List (List ℕ)). next_of lines (rest_of bytes)) behind in
    record {
      numbered = omega (arith, at.number);
      inside = omega (arith, at.number, ap (λ (lines : List (List ℕ)). length lines) at.are, length-append at.front at.back);
      begins = subst Begins (sym before) at.begins;
      stops = λ text is goes_on.
          let next = whole_next at.back (rest_of bytes) text (sym here ∙ is) in
          at.stops text next.0 next.1 (subst (λ (lines : List (List ℕ)). Begins (lines ++ text ∷ [])) before goes_on);
      first = rw (before, here) at.first;
    }

-- the first lines of more lines
prefix : {A : Type 0} (n m : ℕ) (xs : List A) → n ≤ m → (rest : List A) × (take m xs ≡ take n xs ++ rest)
prefix zero m xs le = (take m xs, refl)
prefix (suc n) zero xs le = absurd (omega (arith, le))
prefix (suc n) (suc m) [] le = ([], refl)
prefix {A} (suc n) (suc m) (x ∷ xs) le = let others = prefix n m xs (omega (arith, le)) in (others.0, ap (λ (ys : List A). x ∷ ys) others.1)

-- a text that goes on past a line does not stop there
pub passes : (Begins : List (List ℕ) → Type 0) → ((front back : List (List ℕ)) → Begins (front ++ back) → Begins front)
    → (bytes : List ℕ) (n m : ℕ) → 1 ≤ n → n < m → m ≤ length (ended_lines bytes) + 1 → Begins (lines_before bytes m)
    → ((text : List ℕ) → at_line bytes n ≡ whole text → Begins (lines_before bytes n ++ text ∷ []) → ⊥) → ⊥
passes Begins shorter bytes n m some lt inside begins stops =
    let lines : List (List ℕ) = ended_lines bytes in
    let text : List ℕ = get_or lines (n - 1) [] in
    let there : n - 1 < length lines = omega (arith, lt, inside, some) in
    let here : at_line bytes n ≡ whole text = ap (λ (ls : List (List ℕ)). next_of ls (rest_of bytes)) (drop-cons lines (n - 1) [] there) in
    let again : n - 1 + 1 ≡ n = omega (arith, some) in
    let grown : take n lines ≡ take (n - 1) lines ++ text ∷ [] = ap (λ (k : ℕ). take k lines) (sym again) ∙ take_more lines (n - 1) [] there in
    let rest = prefix n (m - 1) lines (omega (arith, lt)) in
    stops text here (subst Begins grown (shorter (take n lines) rest.0 (subst Begins rest.1 begins)))

same_table : {K : Type 0} (x y : K) → (let o : Option K = Some x in o) ≡ Some y → x ≡ y
same_table x y is = cc

-- where what begins a text begins it with fewer lines too, a text has one first fault
pub one_first_fault : {K : Type 0} (Begins : List (List ℕ) → Type 0) (table : List (List ℕ) → AtLine → Option K) → ((front back : List (List ℕ)) → Begins (front ++ back) → Begins front)
    → (bytes : List ℕ) (e f : LineFault K) → IsFirstFault Begins table bytes e → IsFirstFault Begins table bytes f → e ≡ f
one_first_fault {K} Begins table shorter bytes e f one other =
    elim (cases_order e.line f.line) [
      | inl same ↦
          let kinds : e.kind ≡ f.kind = same_table e.kind f.kind (sym one.first ∙ ap (λ (n : ℕ). table (lines_before bytes n) (at_line bytes n)) same ∙ other.first) in
          ap (λ (n : ℕ). fault n e.kind) same ∙ ap (λ (k : K). fault f.line k) kinds
      | inr apart ↦ elim apart [
        | inl lt ↦ absurd (passes Begins shorter bytes e.line f.line one.numbered lt other.inside other.begins one.stops)
        | inr gt ↦ absurd (passes Begins shorter bytes f.line e.line other.numbered gt one.inside one.begins other.stops)
      ]
    ]

pub record NotEnded {K : Type 0} (more : K) (at : Place) (e : LineFault K) : Type 0 where
  pub fault_is : e ≡ fault (at.number + 1) more
  pub left : 0 < length at.lines + length at.tail

not_ended_by : {K : Type 0} (none : Bool) (more : K) (at : Place) (e : LineFault K) → eqb (length at.lines + length at.tail) 0 ≡ none
    → cond {A = Result (Unit {0} × Place) (LineFault K)} none (Ok (tt, at)) (Err (fault (at.number + 1) more)) ≡ Err e → NotEnded more at e
not_ended_by true more at e test is = absurd cc
not_ended_by false more at e test is = record { fault_is = cc; left = some (length at.lines + length at.tail) test }
  where
    some : (n : ℕ) → eqb n 0 ≡ false → 0 < n
    some zero is = absurd cc
    some (suc n) is = omega arith

pub not_ended : {K : Type 0} {more : K} {at : Place} {e : LineFault K} → the_end more at ≡ Err e → NotEnded more at e
unfolding the_end
not_ended {K} {more} {at} {e} is = not_ended_by (eqb (length at.lines + length at.tail) 0) more at e refl is
