-- The title that is made, and what it is where the blobs are told.
use Rattle.std.proofs.Common.{List, ◌≡◌, ◌∙◌, sym, ap, ap₂, subst, refl, ℕ, ◌*◌, [], Option, Some, None, IfSome, Result, Ok, Err, arith}
use Rattle.std.specs.Option.{option_map}
use Rattle.shelf_terms.specs.declared.limit.TheConstants.{BLOB_LIMIT}
use Rattle.shelf_terms.specs.Blobs.{Blobs}
use Rattle.shelf_terms.specs.Counts.{Tally}
use Rattle.playlist_terms.specs.Playlists.{Playlist}
use Rattle.title_terms.specs.Designs.{Design, places, symbols}
use Rattle.title_terms.specs.Titles.{Title}
use Rattle.title_store.specs.Cells.{filled}
use Rattle.title_store.specs.Builds.{Build, empty_build, title_by, first_beyond}
use Rattle.packaging_terms.specs.Variants.{variants}
use Rattle.packaging_terms.specs.Making.{made, title_with}
use Rattle.outcome_terms.specs.declared.fault.Fault.TheVariants.{NoSegment}
use Rattle.outcome_terms.specs.declared.refusal.Refusal.{Refusal}
use Rattle.outcome_terms.specs.declared.refusal.Refusal.TheVariants.{Content}
use Rattle.outcome_terms.specs.Reading.{Give, ◌>>=◌, ◌>>◌}
use Rattle.outcome_terms.specs.Stores.{Answers, Follows, gave, refused}
use Rattle.records.specs.Events.{Event}
use Rattle.records.specs.Stores.{Store}
use Rattle.outcome_terms.specs.Along.{along}
use Rattle.outcome_terms.specs.TitleCommand.{with_variant, title_made, told_title}
use Rattle.outcome_terms.proofs.Readings.{goes_on, stops}
use Rattle.outcome_terms.proofs.Following.{kept, decided}
use Rattle.outcome_terms.proofs.TitleMaking.{title_given}
use Rattle.packager.specs.Builds.{IsBegun, Fills}

-- a title without digests is begun
pub empty_begun : (d : Design) (p : Playlist) (b : Build) → b ≡ empty_build d p → IsBegun b 0
empty_begun d p b is = subst (λ (b : Build). IsBegun b 0) (sym is) (record {
  rest = places d * symbols d;
  cells = refl;
  long = refl;
  count = omega arith;
  distinct = λ j k before within. absurd (omega (arith, within));
})

pub no_segment : (d : Design) (p : Playlist) (segment : ℕ) (s : Store) → first_beyond d p ≡ Some segment → Follows (title_made d p) s s (Err (Content (NoSegment segment)))
unfolding title_made
no_segment d p segment s is =
    subst (λ (o : Option ℕ). Follows (option_map NoSegment o >> (along (with_variant d) [] (variants d) >>= (λ digests. Give (title_with d p digests)))) s s (Err (Content (NoSegment segment)))) (sym is) refused

pub was_titled : (d : Design) (p : Playlist) (first last : Build) (t : Title) (s u : Store) → first_beyond d p ≡ None → first ≡ empty_build d p → Fills first last s u → t ≡ title_by last
    → Follows (title_made d p) s u (Ok t)
unfolding title_made
was_titled d p first last t s u markable is fills made =
    let design : first.design ≡ d = ap (λ (b : Build). b.design) is in
    let same_design : last.design ≡ d = fills.same.design ∙ design in
    let same_list : last.list ≡ p = fills.same.list ∙ ap (λ (b : Build). b.list) is in
    let title : title_with d p (filled last.cells) ≡ t = ap₂ (λ (e : Design) (q : Playlist). title_with e q (filled last.cells)) (sym same_design) (sym same_list) ∙ sym made in
    let read : Follows (along (with_variant d) [] (variants d)) s u (Ok (filled last.cells)) = subst (λ (e : Design). Follows (along (with_variant e) [] (variants e)) s u (Ok (filled last.cells))) design fills.follows in
    let whole : Follows (along (with_variant d) [] (variants d) >>= (λ digests. Give (title_with d p digests))) s u (Ok t) =
    subst (λ (t : Title). Follows (along (with_variant d) [] (variants d) >>= (λ digests. Give (title_with d p digests))) s u (Ok t)) title
    (goes_on (λ digests. Give (title_with d p digests)) read gave) in
    subst (λ (o : Option ℕ). Follows (option_map NoSegment o >> (along (with_variant d) [] (variants d) >>= (λ digests. Give (title_with d p digests)))) s u (Ok t)) (sym markable) whole

pub not_titled : (d : Design) (p : Playlist) (first : Build) (e : Refusal) (s u : Store) → first_beyond d p ≡ None → first ≡ empty_build d p
    → Follows (along (with_variant first.design) [] (variants first.design)) s u (Err e) → Follows (title_made d p) s u (Err e)
unfolding title_made
not_titled d p first e s u markable is stopped =
    let design : first.design ≡ d = ap (λ (b : Build). b.design) is in
    let read : Follows (along (with_variant d) [] (variants d)) s u (Err e) = subst (λ (e' : Design). Follows (along (with_variant e') [] (variants e')) s u (Err e)) design stopped in
    subst (λ (o : Option ℕ). Follows (option_map NoSegment o >> (along (with_variant d) [] (variants d) >>= (λ digests. Give (title_with d p digests)))) s u (Err e)) (sym markable)
    (stops (λ digests. Give (title_with d p digests)) read)

-- ---- where the blobs are told

pub held_by : (d : Design) (p : Playlist) (told : Option Blobs) (counts : Tally) (events : List Event) (u : Store) (answer : Result Title Refusal)
    → Follows (title_made d p) (record { told = told; counts = counts; events = events }) u answer
    → IfSome told (λ blobs. Answers answer (told_title d (made BLOB_LIMIT blobs d p)))
held_by d p None counts events u answer follows = tt
held_by d p (Some blobs) counts events u answer follows = subst (Answers answer) (title_given blobs d p) (decided blobs refl follows)

pub told_stays : (d : Design) (p : Playlist) (s u : Store) (answer : Result Title Refusal) → Follows (title_made d p) s u answer → u.told ≡ s.told
told_stays d p s u answer follows = kept follows
