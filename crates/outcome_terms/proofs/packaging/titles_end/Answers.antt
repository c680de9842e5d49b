use Rattle.std.proofs.Common.{◌≡◌, ◌∙◌, ap, ◌||◌, ℕ, List, false, Ok, refl}
use Rattle.std.specs.Str.{bytes_eq}
use Rattle.shelf_terms.specs.Blobs.{Blobs}
use Rattle.playlist_terms.specs.Playlists.{Playlist}
use Rattle.playlist_terms.specs.Reading.{playlist_of}
use Rattle.title_terms.specs.Designs.{Design}
use Rattle.title_terms.specs.DesignText.{design_of}
use Rattle.title_terms.specs.TitleText.{title_text}
use Rattle.outcome_terms.specs.declared.fault.Fault.TheVariants.{BadDesign, BadPlaylist, SameName}
use Rattle.outcome_terms.specs.Reading.{Reading, Give, ◌>>=◌, given}
use Rattle.outcome_terms.specs.Stores.{Writing, Exactly}
use Rattle.outcome_terms.specs.TitleCommand.{design_under, playlist_under, title_made, told_title, title}
use Rattle.outcome_terms.proofs.GivenParts.{unhindered, goes, ends, unread_gives, good_gives, bad_gives}
use Rattle.outcome_terms.proofs.TitleMaking.{title_given}
use Rattle.outcome_terms.proofs.packaging.titles_end.Goals as goal

-- behind the list, and behind the design
abbrev last : Design → Playlist → Reading Writing
last d p = title_made d p >>= λ t. Give (Exactly (title_text t))

abbrev behind : List ℕ → Design → Reading Writing
behind source d = playlist_under source >>= last d

starts : (blobs : Blobs) (design source out : List ℕ) → (bytes_eq out design || bytes_eq out source) ≡ false
    → given blobs (title design source out) ≡ given blobs (design_under design >>= behind source)
unfolding title
starts blobs design source out differs = unhindered blobs (bytes_eq out design || bytes_eq out source) (SameName out) _ differs

with_design : (blobs : Blobs) (design source out bytes : List ℕ) (d : Design) → (bytes_eq out design || bytes_eq out source) ≡ false
    → given blobs (design_under design) ≡ Ok d → given blobs (title design source out) ≡ given blobs (behind source d)
with_design blobs design source out bytes d differs good = starts blobs design source out differs ∙ goes blobs (design_under design) (behind source) d good

pub returns-clause-same_name : goal.returns-clause-same_name
unfolding given title
returns-clause-same_name c = λ blobs design source out same. rw same refl

pub returns-clause-design_unread : goal.returns-clause-design_unread
unfolding design_under
returns-clause-design_unread c =
    λ blobs design source out e differs unread.
    starts blobs design source out differs ∙ ends blobs (design_under design) (behind source) e (unread_gives blobs design BadDesign design_of e unread)

pub returns-clause-bad_design : goal.returns-clause-bad_design
unfolding design_under
returns-clause-bad_design c =
    λ blobs design source out bytes fault differs read bad.
    starts blobs design source out differs ∙ ends blobs (design_under design) (behind source) _ (bad_gives blobs design BadDesign design_of bytes fault read bad)

pub returns-clause-source_unread : goal.returns-clause-source_unread
unfolding design_under playlist_under
returns-clause-source_unread c =
    λ blobs design source out bytes d e differs read good unread.
    with_design blobs design source out bytes d differs (good_gives blobs design BadDesign design_of bytes d read good)
    ∙ ends blobs (playlist_under source) (last d) e (unread_gives blobs source BadPlaylist playlist_of e unread)

pub returns-clause-bad_playlist : goal.returns-clause-bad_playlist
unfolding design_under playlist_under
returns-clause-bad_playlist c =
    λ blobs design source out bytes text d at differs read good more bad.
    with_design blobs design source out bytes d differs (good_gives blobs design BadDesign design_of bytes d read good)
    ∙ ends blobs (playlist_under source) (last d) _ (bad_gives blobs source BadPlaylist playlist_of text at more bad)

pub returns-clause-hindered : goal.returns-clause-hindered
unfolding design_under playlist_under
returns-clause-hindered c =
    λ blobs design source out bytes text d p h differs read good more also stands.
    with_design blobs design source out bytes d differs (good_gives blobs design BadDesign design_of bytes d read good)
    ∙ goes blobs (playlist_under source) (last d) p (good_gives blobs source BadPlaylist playlist_of text p more also)
    ∙ ends blobs (title_made d p) (λ t. Give (Exactly (title_text t))) _ (title_given blobs d p ∙ ap (told_title d) stands)

pub returns-clause-done : goal.returns-clause-done
unfolding given design_under playlist_under
returns-clause-done c =
    λ blobs design source out bytes text d p t differs read good more also is.
    with_design blobs design source out bytes d differs (good_gives blobs design BadDesign design_of bytes d read good)
    ∙ goes blobs (playlist_under source) (last d) p (good_gives blobs source BadPlaylist playlist_of text p more also)
    ∙ goes blobs (title_made d p) (λ t. Give (Exactly (title_text t))) t (title_given blobs d p ∙ ap (told_title d) is)
