-- What a loop over the segments of a copy keeps, and where it ends.
use Rattle.std.proofs.Common.{◌≡◌, ◌∙◌, ℕ, suc, ◌+◌, ◌<◌, ◌≤◌, get_or, List, [], ◌∷◌, ◌++◌, length, map, take, Option, Some, None, Result, Ok, Err, All, IfSome, refl, sym, ap, subst, arith, add-one}
use Rattle.std.specs.Prelude.{slice_get}
use Rattle.std.specs.Option.{unwrap_or, option_map}
use Rattle.std.proofs.lemmas.List.{length-map, map-append, take_all}
use Rattle.std.proofs.lemmas.Option.{slice_get-map, slice_get_read}
use Rattle.std.proofs.lemmas.List.Elements.{All-nil, All-push}
use Rattle.sha2.specs.Sha256.{sha256}
use Rattle.shelf_terms.specs.Blobs.{Blobs, blob_at}
use Rattle.playlist_terms.specs.Playlists.{PlaylistSegment, Playlist}
use Rattle.code_terms.specs.Words.{HasSymbolsBelow}
use Rattle.title_terms.specs.Designs.{places, symbols}
use Rattle.title_terms.specs.Titles.{Title}
use Rattle.copy_terms.specs.Copies.{word_of_copy, digests_of}
use Rattle.shelf_io.specs.declared.errors.FetchError.{FetchError}
use Rattle.shelf_io.specs.declared.errors.FetchError.TheVariants as fetch
use Rattle.blob_digests.specs.Digests.{HasDigest, DigestGives}
use Rattle.blob_digests.specs.declared.digest.Digest.{Digest}
use Rattle.outcome_terms.specs.declared.refusal.Refusal.{Refusal}
use Rattle.outcome_terms.specs.declared.refusal.Refusal.TheVariants as refusal
use Rattle.outcome_terms.specs.Reading.{blob, each, Give}
use Rattle.outcome_terms.specs.Stores.{Reads, Follows, gave}
use Rattle.records.specs.Stores.{Store}
use Rattle.outcome_terms.specs.TitleCommand.{digest_under}
use Rattle.outcome_terms.specs.TraceCommand.{segment_names, word_of_copy_under}
use Rattle.outcome_terms.proofs.Following.{kept, over_told}
use Rattle.outcome_terms.proofs.Readings.{goes_on, stops, read_follows}
use Rattle.outcome_terms.proofs.Lists.{each_to, each_fails, or_memory, take_more}
use Rattle.copy_match.specs.declared.error.MatchError.{MatchError}
use Rattle.copy_match.specs.declared.error.MatchError.TheVariants as match_errors
use Rattle.copy_match.specs.Readers.{Reader, IsReader, HasSeen, word_of_flags}
use Rattle.copy_match.specs.Matches.{IsRead, HaveDigests, IsWord, Matches, ReadsAs, ReadsDigest, refusal_of, by_name, stopped_at, read_refusal, name_at}
use Rattle.copy_match.proofs.Shown.{long_word, small_word}

-- the reader has seen the first segments, which were read
pub record HasRead (t : Title) (copy : Playlist) (r : Reader) (i : ℕ) (old new : Store) : Type 0 where
  pub digests : List (List ℕ)
  pub title : r.title ≡ t
  pub seen : HasSeen r digests
  pub followed : Follows (each digest_under (take i (segment_names copy))) old new (Ok digests)
  pub held : IfSome old.told (λ blobs. HaveDigests blobs (take i (segment_names copy)) digests)

pub none_read : (t : Title) (copy : Playlist) (r : Reader) (s : Store) → r.title ≡ t → HasSeen r [] → HasRead t copy r 0 s s
unfolding each
none_read t copy r s title seen = record {
  digests = [];
  title = title;
  seen = seen;
  followed = gave;
  held = over_told s.told (λ blobs _. record { read = All-nil (IsRead blobs); are = refl });
}

-- the name of the segment that the loop is at
pub named : (copy : Playlist) (segments : List PlaylistSegment) (i : ℕ) (segment : PlaylistSegment) → segments ≡ copy.segments → i < length segments → segment ≡ get_or segments i segment
    → slice_get (segment_names copy) i ≡ Some segment.uri
named copy segments i segment are inside is =
    slice_get-map (λ (s : PlaylistSegment). s.uri) copy.segments i
    ∙ ap (option_map (λ (s : PlaylistSegment). s.uri)) (sym (ap (λ (ss : List PlaylistSegment). slice_get ss i) are) ∙ slice_get_read segments (length segments) i segment refl inside is)

-- ---- one more segment

read_one : {name digest : List ℕ} {s t : Store} → ReadsAs name s t digest → Follows (digest_under name) s t (Ok digest)
unfolding digest_under
read_one {name} {digest} {s} {t} r = subst (λ (d : List ℕ). Follows (digest_under name) s t (Ok d)) (sym r.is) (goes_on (λ bytes. Give (sha256 bytes)) (read_follows (Ok r.bytes) r.read) gave)

not_read : {name : List ℕ} {s t : Store} {e : Refusal} → Reads name s t (Err e) → Follows (digest_under name) s t (Err e)
unfolding digest_under
not_read {e = e} r = stops (λ bytes. Give (sha256 bytes)) (read_follows (Err e) r)

-- what holds over told blobs holds over the same ones
told_same : (P : Blobs → Type 0) (old now : Option Blobs) → now ≡ old → IfSome now P → IfSome old P
told_same P old now same h = subst (λ (o : Option Blobs). IfSome o P) same h

at_told : (P : Blobs → Type 0) (told : Option Blobs) (blobs : Blobs) → told ≡ Some blobs → IfSome told P → P blobs
at_told P told blobs is h = subst (λ (o : Option Blobs). IfSome o P) is h

pub one_read : (t : Title) (copy : Playlist) (r more : Reader) (i : ℕ) (name digest : List ℕ) (s now u : Store) → HasRead t copy r i s now → slice_get (segment_names copy) i ≡ Some name
    → ReadsAs name now u digest → HasDigest now u name digest → more.title ≡ r.title → ((digests : List (List ℕ)) → HasSeen r digests → HasSeen more (digests ++ digest ∷ []))
    → HasRead t copy more (i + 1) s u
one_read t copy r more i name digest s now u so_far at reads is title sees =
    let longer : take (i + 1) (segment_names copy) ≡ take i (segment_names copy) ++ name ∷ [] = rw add-one (take_more (segment_names copy) i name at) in
    record {
      digests = so_far.digests ++ digest ∷ [];
      title = title ∙ so_far.title;
      seen = sees so_far.digests so_far.seen;
      followed = each_to digest_under (segment_names copy) i name so_far.digests digest at so_far.followed (read_one reads);
      held = over_told s.told (λ blobs told.
          let before : HaveDigests blobs (take i (segment_names copy)) so_far.digests = at_told (λ b. HaveDigests b (take i (segment_names copy)) so_far.digests) s.told blobs told so_far.held in
          let held : blob_at blobs name ≡ Some is.blob = at_told (λ b. blob_at b name ≡ Some is.blob) now.told blobs (kept so_far.followed ∙ told) is.held in
          let one : IsRead blobs name = record { bytes = is.blob; held = held; within = is.within } in
          let last : digest ≡ sha256 (unwrap_or (blob_at blobs name) []) = is.is ∙ ap (λ (o : Option (List ℕ)). sha256 (unwrap_or o [])) (sym held) in
          record {
            read = subst (All (IsRead blobs)) (sym longer) (All-push (IsRead blobs) (take i (segment_names copy)) name before.read one);
            are =
                ap (λ (d : List ℕ). so_far.digests ++ d ∷ []) last
                ∙ ap (λ (ds : List (List ℕ)). ds ++ sha256 (unwrap_or (blob_at blobs name) []) ∷ []) before.are
                ∙ sym (ap (digests_of blobs) longer ∙ map-append (λ n. sha256 (unwrap_or (blob_at blobs n) [])) (take i (segment_names copy)) (name ∷ []));
          });
    }

-- ---- a segment that cannot be read

names_it : (copy : Playlist) (i : ℕ) (name : List ℕ) (e : FetchError) → slice_get (segment_names copy) i ≡ Some name → read_refusal name e ≡ refusal_of copy (stopped_at i e)
names_it copy i name fetch.Missing at = ap (λ (o : Option (List ℕ)). refusal.Missing (unwrap_or o [])) (sym at)
names_it copy i name fetch.Fault at = ap (λ (o : Option (List ℕ)). refusal.ReadFault (unwrap_or o [])) (sym at)
names_it copy i name fetch.TooLong at = ap (λ (o : Option (List ℕ)). refusal.TooLong (unwrap_or o [])) (sym at)
names_it copy i name fetch.Memory at = refl

pub stopped_follows : (t : Title) (copy : Playlist) (r : Reader) (i : ℕ) (name : List ℕ) (e : FetchError) (s now u : Store) → HasRead t copy r i s now → slice_get (segment_names copy) i ≡ Some name
    → Reads name now u (Err (read_refusal name e)) → Follows (word_of_copy_under t copy) s u (Err (refusal_of copy (stopped_at i e)))
unfolding word_of_copy_under
stopped_follows t copy r i name e s now u so_far at unread =
    subst (λ (wanted : Refusal). Follows (word_of_copy_under t copy) s u (Err wanted)) (names_it copy i name e at)
    (stops (λ digests. Give (word_of_copy t digests)) (each_fails digest_under (segment_names copy) i name so_far.digests (read_refusal name e) at so_far.followed (not_read unread)))

pub stopped_matches : (t : Title) (copy : Playlist) (r : Reader) (i : ℕ) (name : List ℕ) (e : FetchError) (s now u : Store) → HasRead t copy r i s now → slice_get (segment_names copy) i ≡ Some name
    → DigestGives now u name (Err e) → Matches s.told t copy (Err (stopped_at i e))
stopped_matches t copy r i name e s now u so_far at gives = by e gives
  where
    earlier : IfSome s.told (λ blobs. All (IsRead blobs) (take i (segment_names copy)))
    earlier = over_told s.told (λ blobs told. (at_told (λ b. HaveDigests b (take i (segment_names copy)) so_far.digests) s.told blobs told so_far.held).read)

    by : (e : FetchError) → DigestGives now u name (Err e) → Matches s.told t copy (Err (stopped_at i e))
    by fetch.Missing h = record { name = name; stands = at; earlier = earlier; hindered = told_same _ s.told now.told (kept so_far.followed) h }
    by fetch.TooLong h = record { name = name; stands = at; earlier = earlier; hindered = told_same _ s.told now.told (kept so_far.followed) h }
    by fetch.Fault h = record { name = name; stands = at; earlier = earlier; hindered = over_told s.told (λ blobs told. tt) }
    by fetch.Memory h = tt

-- ---- the end

-- the loop is at the end of the names
pub all_read : (copy : Playlist) (segments : List PlaylistSegment) (i : ℕ) → segments ≡ copy.segments → length segments ≤ i → length (segment_names copy) ≤ i
all_read copy segments i are past = omega (arith, past, ap length are, length-map copy.segments (λ (s : PlaylistSegment). s.uri))

module _ (t : Title) (copy : Playlist) (r : Reader) (i : ℕ) (s now : Store) (so_far : HasRead t copy r i s now) (all : length (segment_names copy) ≤ i) where
  whole : take i (segment_names copy) ≡ segment_names copy
  whole = take_all i (segment_names copy) all

  followed_all : Follows (each digest_under (segment_names copy)) s now (Ok so_far.digests)
  followed_all = subst (λ (names : List (List ℕ)). Follows (each digest_under names) s now (Ok so_far.digests)) whole so_far.followed

  word_is : (word : List (Option ℕ)) → ((digests : List (List ℕ)) → HasSeen r digests → word ≡ word_of_copy r.title digests) → word ≡ word_of_copy t so_far.digests
  word_is word by = by so_far.digests so_far.seen ∙ ap (λ (x : Title). word_of_copy x so_far.digests) so_far.title

  pub all_follows : (word : List (Option ℕ)) → ((digests : List (List ℕ)) → HasSeen r digests → word ≡ word_of_copy r.title digests) → Follows (word_of_copy_under t copy) s now (Ok word)
  unfolding word_of_copy_under
  all_follows word by =
      subst (λ (w : List (Option ℕ)). Follows (word_of_copy_under t copy) s now (Ok w)) (sym (word_is word by)) (goes_on (λ digests. Give (word_of_copy t digests)) followed_all gave)

  pub all_matches : (word : List (Option ℕ)) → ((digests : List (List ℕ)) → HasSeen r digests → word ≡ word_of_copy r.title digests) → Matches s.told t copy (Ok word)
  all_matches word by = over_told s.told (λ blobs told.
      let before : HaveDigests blobs (take i (segment_names copy)) so_far.digests = at_told (λ b. HaveDigests b (take i (segment_names copy)) so_far.digests) s.told blobs told so_far.held in
      record {
        read = subst (All (IsRead blobs)) whole before.read;
        is = word_is word by ∙ ap (word_of_copy t) (before.are ∙ ap (digests_of blobs) whole);
      })

  pub all_long : (word : List (Option ℕ)) → ((digests : List (List ℕ)) → HasSeen r digests → word ≡ word_of_copy r.title digests) → length word ≡ places t.design
  all_long word by = ap length (word_is word by) ∙ long_word t so_far.digests

  pub all_small : (word : List (Option ℕ)) → ((digests : List (List ℕ)) → HasSeen r digests → word ≡ word_of_copy r.title digests) → HasSymbolsBelow (symbols t.design) word
  all_small word by = subst (HasSymbolsBelow (symbols t.design)) (sym (word_is word by)) (small_word t so_far.digests)

  pub memory_follows : Follows (word_of_copy_under t copy) s now (Err refusal.Memory)
  unfolding word_of_copy_under
  memory_follows = stops (λ digests. Give (word_of_copy t digests)) (or_memory followed_all)
