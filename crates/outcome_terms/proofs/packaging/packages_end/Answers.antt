use Rattle.std.proofs.Common.{◌≡◌, ◌∙◌, ◌||◌, ℕ, List, false, Ok, refl}
use Rattle.std.specs.Str.{bytes_eq}
use Rattle.shelf_terms.specs.Blobs.{Blobs}
use Rattle.register_terms.specs.RegisterText.{register_of}
use Rattle.title_terms.specs.Titles.{Title}
use Rattle.title_terms.specs.TitleText.{title_of}
use Rattle.outcome_terms.specs.declared.fault.Fault.TheVariants.{BadRegister, BadTitle, SameName}
use Rattle.outcome_terms.specs.Reading.{Reading, ◌>>=◌, given}
use Rattle.outcome_terms.specs.Stores.{Writing}
use Rattle.outcome_terms.specs.Registers.{register_under}
use Rattle.outcome_terms.specs.PackageCommand.{title_under, packaged, package_}
use Rattle.outcome_terms.proofs.GivenParts.{unhindered, goes, ends, unread_gives, good_gives, bad_gives}
use Rattle.outcome_terms.proofs.packaging.packages_end.Goals as goal

-- behind the title
abbrev behind : (register licensee : List ℕ) → Title → Reading Writing
behind register licensee t = register_under register >>= λ e. packaged t e licensee

starts : (blobs : Blobs) (name register licensee out : List ℕ) → (bytes_eq out name || bytes_eq out register) ≡ false
    → given blobs (package_ name register licensee out) ≡ given blobs (title_under name >>= behind register licensee)
unfolding package_
starts blobs name register licensee out differs = unhindered blobs (bytes_eq out name || bytes_eq out register) (SameName out) _ differs

with_title : (blobs : Blobs) (name register licensee out bytes : List ℕ) (t : Title) → (bytes_eq out name || bytes_eq out register) ≡ false
    → given blobs (title_under name) ≡ Ok t → given blobs (package_ name register licensee out) ≡ given blobs (behind register licensee t)
with_title blobs name register licensee out bytes t differs good =
    starts blobs name register licensee out differs ∙ goes blobs (title_under name) (behind register licensee) t good

pub returns-clause-same_name : goal.returns-clause-same_name
unfolding given package_
returns-clause-same_name c = λ blobs name register licensee out same. rw same refl

pub returns-clause-title_unread : goal.returns-clause-title_unread
unfolding title_under
returns-clause-title_unread c =
    λ blobs name register licensee out e differs unread.
    starts blobs name register licensee out differs ∙ ends blobs (title_under name) (behind register licensee) e (unread_gives blobs name BadTitle title_of e unread)

pub returns-clause-bad_title : goal.returns-clause-bad_title
unfolding title_under
returns-clause-bad_title c =
    λ blobs name register licensee out bytes at differs read bad.
    starts blobs name register licensee out differs ∙ ends blobs (title_under name) (behind register licensee) _ (bad_gives blobs name BadTitle title_of bytes at read bad)

pub returns-clause-register_unread : goal.returns-clause-register_unread
unfolding title_under register_under
returns-clause-register_unread c =
    λ blobs name register licensee out bytes t e differs read good unread.
    with_title blobs name register licensee out bytes t differs (good_gives blobs name BadTitle title_of bytes t read good)
    ∙ ends blobs (register_under register) (λ r. packaged t r licensee) e (unread_gives blobs register BadRegister register_of e unread)

pub returns-clause-bad_register : goal.returns-clause-bad_register
unfolding title_under register_under
returns-clause-bad_register c =
    λ blobs name register licensee out bytes text t at differs read good more bad.
    with_title blobs name register licensee out bytes t differs (good_gives blobs name BadTitle title_of bytes t read good)
    ∙ ends blobs (register_under register) (λ r. packaged t r licensee) _ (bad_gives blobs register BadRegister register_of text at more bad)

pub returns-clause-ready : goal.returns-clause-ready
unfolding title_under register_under
returns-clause-ready c =
    λ blobs name register licensee out bytes text t e differs read good more also.
    with_title blobs name register licensee out bytes t differs (good_gives blobs name BadTitle title_of bytes t read good)
    ∙ goes blobs (register_under register) (λ r. packaged t r licensee) e (good_gives blobs register BadRegister register_of text e more also)

pub returns-clause-mismatch : goal.returns-clause-mismatch
unfolding given packaged
returns-clause-mismatch c = λ blobs t e licensee differ. rw differ refl

pub returns-clause-unknown : goal.returns-clause-unknown
unfolding given ◌>>=◌ packaged
returns-clause-unknown c = λ blobs t e licensee fit none. rw (fit, none) refl

pub returns-clause-withdrawn : goal.returns-clause-withdrawn
unfolding given ◌>>=◌ packaged
returns-clause-withdrawn c = λ blobs t e licensee serial fit some left. rw (fit, some, left) refl

pub returns-clause-done : goal.returns-clause-done
unfolding given ◌>>=◌ packaged
returns-clause-done c = λ blobs t e licensee serial fit some active. rw (fit, some, active) refl
