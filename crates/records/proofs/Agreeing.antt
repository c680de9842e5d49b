-- What follows of the blobs that would have answered so.
use Rattle.std.proofs.Common.{◌≡◌, ◌∙◌, sym, ap, ap₂, subst, ℕ, ◌-◌, ◌<◌, ◌≤◌, min, List, [], ◌∷◌, ◌++◌, length, length-append, append_assoc, append-nil, take, drop, Some, None, refl, arith}
use Rattle.std.proofs.Math.Seq.{take-add, take-append_seam, drop-append_seam}
use Rattle.std.proofs.lemmas.List.{take_all, length-take}
use Rattle.std.specs.FinMap.{insert}
use Rattle.shelf_terms.specs.Blobs.{Blobs, blob_at, part_of}
use Rattle.records.specs.Events.{Event, Gave, Missed, Failed, Took, Refused}
use Rattle.records.specs.Agreement.{IsPart, HoldsLonger, Agrees}
use Rattle.records.specs.declared.limit.TheConstants.{PART_LIMIT}
use Rattle.records.specs.Parts.{OnlyReads, Front, begun, grown, IsWhole, IsLonger, IsMissed}

pub record Split (old : Blobs) (first then : List Event) (new : Blobs) : Type 0 where
  pub between : Blobs
  pub before : Agrees old first between
  pub after : Agrees between then new

pub split : (old : Blobs) (first then : List Event) (new : Blobs) → Agrees old (first ++ then) new → Split old first then new
unfolding Agrees
split old [] then new h = record { between = old; before = refl; after = h }
split old (Gave name from most bytes ∷ events) then new h =
    let s = split old events then new h.1 in record { between = s.between; before = (h.0, s.before); after = s.after }
split old (Missed name ∷ events) then new h =
    let s = split old events then new h.1 in record { between = s.between; before = (h.0, s.before); after = s.after }
split old (Failed name ∷ events) then new h =
    let s = split old events then new h in record { between = s.between; before = s.before; after = s.after }
split old (Took name bytes ∷ events) then new h =
    let s = split (insert old name bytes) events then new h in record { between = s.between; before = s.before; after = s.after }
split old (Refused name bytes ∷ events) then new h =
    let s = split h.0 events then new h.1.1 in record { between = s.between; before = (h.0, (h.1.0, s.before)); after = s.after }

-- what only reads leaves the blobs
pub reads_keep : (name : List ℕ) (old : Blobs) (events : List Event) (new : Blobs) → OnlyReads name events → Agrees old events new → new ≡ old
unfolding Agrees OnlyReads
reads_keep name old [] new only h = h
reads_keep name old (Gave asked from most bytes ∷ events) new only h = reads_keep name old events new only.1 h.1
reads_keep name old (Missed asked ∷ events) new only h = reads_keep name old events new only.1 h.1
reads_keep name old (Failed asked ∷ events) new only h = reads_keep name old events new only.1 h
reads_keep name old (Took asked bytes ∷ events) new only h = absurd only
reads_keep name old (Refused asked bytes ∷ events) new only h = absurd only

pub reads_both : (name : List ℕ) (first then : List Event) → OnlyReads name first → OnlyReads name then → OnlyReads name (first ++ then)
unfolding OnlyReads
reads_both name [] then one two = two
reads_both name (Gave asked from most bytes ∷ events) then one two = (one.0, reads_both name events then one.1 two)
reads_both name (Missed asked ∷ events) then one two = (one.0, reads_both name events then one.1 two)
reads_both name (Failed asked ∷ events) then one two = (one.0, reads_both name events then one.1 two)
reads_both name (Took asked bytes ∷ events) then one two = absurd one
reads_both name (Refused asked bytes ∷ events) then one two = absurd one

pub reads_part : (name : List ℕ) (events : List Event) (from most : ℕ) (bytes : List ℕ) → OnlyReads name events → OnlyReads name (events ++ Gave name from most bytes ∷ [])
unfolding OnlyReads
reads_part name events from most bytes only = reads_both name events _ only (refl, tt)

pub reads_missed : (name : List ℕ) (events : List Event) → OnlyReads name events → OnlyReads name (events ++ Missed name ∷ [])
unfolding OnlyReads
reads_missed name events only = reads_both name events _ only (refl, tt)

pub reads_failed : (name : List ℕ) (events : List Event) → OnlyReads name events → OnlyReads name (events ++ Failed name ∷ [])
unfolding OnlyReads
reads_failed name events only = reads_both name events _ only (refl, tt)

pub front_reads : (name : List ℕ) {bytes : List ℕ} {events : List Event} → Front name bytes events → OnlyReads name events
unfolding OnlyReads
front_reads name begun = tt
front_reads name (grown {bytes = bytes} {events = events} part some front) = reads_part name events (length bytes) PART_LIMIT part (front_reads name front)

-- ---- the parts of a blob

front_grows : (blob whole part : List ℕ) → whole ≡ take (length whole) blob → part ≡ take (length part) (drop (length whole) blob)
    → whole ++ part ≡ take (length (whole ++ part)) blob
front_grows blob whole part prefix is =
    sym (ap (λ n. take n blob) (length-append whole part)
    ∙ take-add (length whole) (length part) blob
    ∙ ap₂ (λ a b. a ++ b) (sym prefix) (sym is))

-- the last event, and all before it
record Last (name : List ℕ) (old : Blobs) (events : List Event) (last : Event) (new : Blobs) : Type 0 where
  before : Agrees old events old
  ends : Agrees old (last ∷ []) new

last_of : (name : List ℕ) (old : Blobs) (events : List Event) (last : Event) (new : Blobs) → OnlyReads name events → Agrees old (events ++ last ∷ []) new → Last name old events last new
last_of name old events last new only h =
    let s = split old events (last ∷ []) new h in
    let same : s.between ≡ old = reads_keep name old events s.between only s.before in
    record { before = subst (λ m. Agrees old events m) same s.before; ends = subst (λ m. Agrees m (last ∷ []) new) same s.after }

last_part : (old : Blobs) (name : List ℕ) (from most : ℕ) (bytes : List ℕ) (new : Blobs) → Agrees old (Gave name from most bytes ∷ []) new → IsPart old name from bytes
unfolding Agrees
last_part old name from most bytes new h = h.0

last_missed : (old : Blobs) (name : List ℕ) (new : Blobs) → Agrees old (Missed name ∷ []) new → blob_at old name ≡ None
unfolding Agrees
last_missed old name new h = h.0

-- what came is a prefix of the blob
pub front_is : (name : List ℕ) (old : Blobs) {bytes : List ℕ} {events : List Event} (new : Blobs) → Front name bytes events → Agrees old events new
    → (blob : List ℕ) → blob_at old name ≡ Some blob → bytes ≡ take (length bytes) blob
front_is name old new begun h blob held = refl
front_is name old new (grown {bytes = bytes} {events = events} part some front) h blob held =
    let l = last_of name old events (Gave name (length bytes) PART_LIMIT part) new (front_reads name front) h in
    let p = last_part old name (length bytes) PART_LIMIT part new l.ends in
    let one : p.blob ≡ blob = cc (p.held, held) in
    front_grows blob bytes part (front_is name old old front l.before blob held) (p.bytes ∙ ap (λ b. take (length part) (drop (length bytes) b)) one)

pub whole_is : (name : List ℕ) (old : Blobs) (bytes : List ℕ) (events : List Event) (new : Blobs) → IsWhole name bytes events → Agrees old events new → blob_at old name ≡ Some bytes
whole_is name old bytes events new w h =
    let l = last_of name old w.before (Gave name (length bytes) PART_LIMIT []) new (front_reads name w.front) (subst (λ e. Agrees old e new) w.is h) in
    let p = last_part old name (length bytes) PART_LIMIT [] new l.ends in
    let prefix = front_is name old old w.front l.before p.blob p.held in
    let short : length p.blob ≤ length bytes = p.ends refl in
    p.held ∙ ap Some (sym (prefix ∙ take_all (length bytes) p.blob short))

pub longer_is : (name : List ℕ) (old : Blobs) (limit : ℕ) (events : List Event) (new : Blobs) → IsLonger name limit events → Agrees old events new → HoldsLonger old name limit
longer_is name old limit events new w h = go w.front w.longer h
  where
    go : {bytes : List ℕ} {events : List Event} → Front name bytes events → limit < length bytes → Agrees old events new → HoldsLonger old name limit
    go begun longer h = absurd (omega (arith, longer))
    go (grown {bytes = bytes} {events = events} part some front) longer h =
        let l = last_of name old events (Gave name (length bytes) PART_LIMIT part) new (front_reads name front) h in
        let p = last_part old name (length bytes) PART_LIMIT part new l.ends in
        let is = front_is name old new (grown part some front) h p.blob p.held in
        let short : length (bytes ++ part) ≤ length p.blob = omega (arith, ap length is, length-take (length (bytes ++ part)) p.blob) in
        record { blob = p.blob; held = p.held; longer = omega (arith, longer, short) }

pub missed_is : (name : List ℕ) (old : Blobs) (events : List Event) (new : Blobs) → IsMissed name events → Agrees old events new → blob_at old name ≡ None
missed_is name old events new w h =
    let l = last_of name old w.before (Missed name) new (front_reads name w.front) (subst (λ e. Agrees old e new) w.is h) in
    last_missed old name new l.ends

-- ---- blobs that agree

pub join : (old : Blobs) (first then : List Event) (between new : Blobs) → Agrees old first between → Agrees between then new → Agrees old (first ++ then) new
unfolding Agrees
join old [] then between new h k = subst (λ m. Agrees m then new) h k
join old (Gave name from most bytes ∷ events) then between new h k = (h.0, join old events then between new h.1 k)
join old (Missed name ∷ events) then between new h k = (h.0, join old events then between new h.1 k)
join old (Failed name ∷ events) then between new h k = join old events then between new h k
join old (Took name bytes ∷ events) then between new h k = join (insert old name bytes) events then between new h k
join old (Refused name bytes ∷ events) then between new h k = (h.0, (h.1.0, join h.0 events then between new h.1.1 k))

one_part : (blobs : Blobs) (name : List ℕ) (from most : ℕ) (part : List ℕ) → IsPart blobs name from part → Agrees blobs (Gave name from most part ∷ []) blobs
unfolding Agrees
one_part blobs name from most part h = (h, refl)

no_events : (blobs : Blobs) → Agrees blobs [] blobs
unfolding Agrees
no_events blobs = refl

not_empty : (part : List ℕ) (X : Type 0) → 1 ≤ length part → part ≡ [] → X
not_empty part X some is = absurd (omega (arith, some, ap length is))

front_agrees : (blobs : Blobs) (name : List ℕ) {bytes : List ℕ} {events : List Event} → Front name bytes events → (rest : List ℕ) → blob_at blobs name ≡ Some (bytes ++ rest) → Agrees blobs events blobs
front_agrees blobs name begun rest held = no_events blobs
front_agrees blobs name (grown {bytes = bytes} {events = events} part some front) rest held =
    let longer : blob_at blobs name ≡ Some (bytes ++ (part ++ rest)) = held ∙ ap Some (append_assoc bytes part rest) in
    join blobs events (Gave name (length bytes) PART_LIMIT part ∷ []) blobs blobs (front_agrees blobs name front (part ++ rest) longer)
    (one_part blobs name (length bytes) PART_LIMIT part (record {
      blob = bytes ++ (part ++ rest);
      held = longer;
      bytes = sym (ap (take (length part)) (drop-append_seam bytes (part ++ rest)) ∙ take-append_seam part rest);
      ends = not_empty part _ some;
    }))

-- blobs that hold what was read agree with the read
pub whole_agrees : (blobs : Blobs) (name bytes : List ℕ) (events : List Event) → IsWhole name bytes events → blob_at blobs name ≡ Some bytes → Agrees blobs events blobs
whole_agrees blobs name bytes events w held =
    let longer : blob_at blobs name ≡ Some (bytes ++ []) = held ∙ ap Some (sym (append-nil bytes)) in
    subst (λ e. Agrees blobs e blobs) (sym w.is)
    (join blobs w.before (Gave name (length bytes) PART_LIMIT [] ∷ []) blobs blobs (front_agrees blobs name w.front [] longer)
    (one_part blobs name (length bytes) PART_LIMIT [] (record { blob = bytes; held = held; bytes = refl; ends = λ _. omega arith })))
