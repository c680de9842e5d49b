-- A blob that comes from a store part by part.
use Rattle.std.proofs.Common.{◌≡◌, ◌∙◌, sym, ap, subst, ℕ, ◌<◌, ◌≤◌, List, [], ◌∷◌, ◌++◌, length, append_assoc, append-nil, Err, inl, inr, refl, arith}
use Rattle.records.specs.declared.limit.TheConstants.{PART_LIMIT}
use Rattle.records.specs.Events.{Event, Gave, Missed, Failed}
use Rattle.records.specs.Parts.{OnlyReads, Front, begun, grown, IsFront, IsWhole, IsLonger, IsMissed, IsFailed, IsStopped, EndsWith, Came}
use Rattle.records.proofs.Agreeing.{front_reads, reads_part, reads_missed, reads_failed}
use Rattle.shelf_io.specs.Events.{after_read}
use Rattle.shelf_io.specs.declared.errors.ShelfError.{ShelfError}
use Rattle.shelf_io.specs.declared.errors.ShelfError.TheVariants as shelf

-- these bytes came so far
pub record IsComing (name bytes : List ℕ) (old new : List Event) : Type 0 where
  pub events : List Event
  pub after : new ≡ old ++ events
  pub front : Front name bytes events

pub none_came : (name : List ℕ) (old : List Event) → IsComing name [] old old
none_came name old = record { events = []; after = sym (append-nil old); front = begun }

nothing_left : (part : List ℕ) → length part ≡ 0 → part ≡ []
nothing_left [] is = refl
nothing_left (x ∷ xs) is = absurd (omega (arith, is))

module _ (name bytes : List ℕ) (old now new : List Event) where
  -- one event more
  more_events : (last : Event) (came : IsComing name bytes old now) → new ≡ now ++ last ∷ [] → new ≡ old ++ (came.events ++ last ∷ [])
  more_events last came is = is ∙ ap (λ e. e ++ last ∷ []) came.after ∙ append_assoc old came.events _

  -- ---- a part was given
  module _ (part : List ℕ) (from : ℕ) (came : IsComing name bytes old now) (here : from ≡ length bytes) (is : new ≡ now ++ Gave name from PART_LIMIT part ∷ []) where
    at_its_place : new ≡ now ++ Gave name (length bytes) PART_LIMIT part ∷ []
    at_its_place = is ∙ ap (λ n. now ++ Gave name n PART_LIMIT part ∷ []) here

    pub more_came : (more : List ℕ) → 1 ≤ length part → more ≡ bytes ++ part → IsComing name more old new
    more_came more some grows = record {
      events = came.events ++ Gave name (length bytes) PART_LIMIT part ∷ [];
      after = more_events _ came at_its_place;
      front = subst (λ m. Front name m (came.events ++ Gave name (length bytes) PART_LIMIT part ∷ [])) (sym grows) (grown part some came.front);
    }

    pub whole_came : length part ≡ 0 → Came name old new (IsWhole name bytes)
    whole_came empty =
        let ends : new ≡ now ++ Gave name (length bytes) PART_LIMIT [] ∷ [] = at_its_place ∙ ap (λ p. now ++ Gave name (length bytes) PART_LIMIT p ∷ []) (nothing_left part empty) in
        record {
          events = came.events ++ Gave name (length bytes) PART_LIMIT [] ∷ [];
          after = more_events _ came ends;
          reads = reads_part name came.events (length bytes) PART_LIMIT [] (front_reads name came.front);
          is = record { before = came.events; front = came.front; is = refl };
        }

    pub longer_came : (limit : ℕ) → 1 ≤ length part → limit < length (bytes ++ part) → Came name old new (IsLonger name limit)
    longer_came limit some longer =
        let m = more_came (bytes ++ part) some refl in
        record { events = m.events; after = m.after; reads = front_reads name m.front; is = record { bytes = bytes ++ part; front = m.front; longer = longer } }

    -- memory was wanting for the part
    pub dropped_came : 1 ≤ length part → Came name old new (IsStopped name)
    dropped_came some =
        let m = more_came (bytes ++ part) some refl in
        record { events = m.events; after = m.after; reads = front_reads name m.front; is = inl (record { bytes = bytes ++ part; front = m.front }) }

  -- ---- the store refused
  missed_came : IsComing name bytes old now → new ≡ now ++ Missed name ∷ [] → Came name old new (IsMissed name)
  missed_came came is = record {
    events = came.events ++ Missed name ∷ [];
    after = more_events _ came is;
    reads = reads_missed name came.events (front_reads name came.front);
    is = record { bytes = bytes; before = came.events; front = came.front; is = refl };
  }

  failed_came : IsComing name bytes old now → new ≡ now ++ Failed name ∷ [] → Came name old new (IsFailed name)
  failed_came came is = record {
    events = came.events ++ Failed name ∷ [];
    after = more_events _ came is;
    reads = reads_failed name came.events (front_reads name came.front);
    is = record { bytes = bytes; before = came.events; front = came.front; is = refl };
  }

  module _ {A : Type 0} (items : A → List ℕ) (from most : ℕ) (e : ShelfError) (came : IsComing name bytes old now) (after : new ≡ after_read items now name from most (Err e)) where
    pub missing_came : e ≡ shelf.Missing → Came name old new (IsMissed name)
    missing_came is = missed_came came (subst (λ e. new ≡ after_read items now name from most (Err e)) is after)

    pub fault_came : e ≡ shelf.Fault → Came name old new (IsFailed name)
    fault_came is = failed_came came (subst (λ e. new ≡ after_read items now name from most (Err e)) is after)

    pub memory_came : e ≡ shelf.Memory → Came name old new (IsStopped name)
    memory_came is =
        let f = failed_came came (subst (λ e. new ≡ after_read items now name from most (Err e)) is after) in
        record { events = f.events; after = f.after; reads = f.reads; is = inr (inr f.is) }
