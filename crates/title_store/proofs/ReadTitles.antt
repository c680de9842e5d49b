-- What was read of a whole text, and the design of a title that was read.
use Rattle.std.proofs.Common.{◌≡◌, ℕ, true, List, Option, is_some, subst, Result, Ok, Err, refl, sym, ap, ◌∙◌}
use Rattle.std.specs.Result.{IfOk, IfErr}
use Rattle.std.specs.List.{list_all}
use Rattle.playlist_terms.specs.Playlists.{Playlist}
use Rattle.title_store.specs.Cells.{filled}
use Rattle.title_store.specs.Builds.{IsWhole}
use Rattle.form_terms.specs.declared.fault.LineFault.{LineFault}
use Rattle.form_terms.specs.Forms.{Place, before, found_in}
use Rattle.title_terms.specs.declared.fault.TitleKind.{TitleKind}
use Rattle.title_terms.specs.declared.fault.DesignFault.{DesignFault}
use Rattle.title_terms.specs.Designs.{Design, IsDesign}
use Rattle.title_terms.specs.DesignRules.{proposal, design_from}
use Rattle.title_terms.proofs.DesignValues.{accepted_again}
use Rattle.title_terms.specs.Titles.{Title, IsTitle}
use Rattle.title_terms.specs.TitleText.{title_form, title_of, title_text}
use Rattle.title_terms.proofs.Texts.{read_was_written}
use Rattle.title_store.specs.declared.errors.TitleReadError.{TitleReadError}
use Rattle.title_store.specs.declared.errors.TitleReadError.TheVariants as read_errors
use Rattle.title_store.specs.Reads.{IsRefused, ReadsAs}

pub at_start : (bytes : List ℕ) → (before 0 bytes).number ≡ 0
unfolding before
at_start bytes = refl

pub was_read : (bytes : List ℕ) (t : Title) (after : Place) → title_form (before 0 bytes) ≡ Ok (t, after) → title_of bytes ≡ Ok t
unfolding title_of
was_read bytes t after is = ap found_in is

pub not_read : (bytes : List ℕ) (e : TitleReadError) → IsRefused e (title_form (before 0 bytes)) → IsRefused e (title_of bytes)
unfolding title_of
not_read bytes read_errors.Memory refused = tt
not_read bytes (read_errors.NotTitle fault) refused = ap found_in refused

ok_is : (x y : Design) → (let r : Result Design DesignFault = Ok x in r) ≡ Ok y → x ≡ y
ok_is x y e = cc

-- the values of a valid design make just it
pub design_is : (d made : Design) → IsDesign d → design_from (proposal d) ≡ Ok made → made ≡ d
design_is d made valid is = sym (ok_is d made (sym (accepted_again d valid) ∙ is))

pub valid_title : (bytes : List ℕ) (t : Title) → title_of bytes ≡ Ok t → IsTitle t
valid_title bytes t is = let text = read_was_written bytes t is in text.valid

pub is_text : (bytes : List ℕ) (r : Result Title TitleReadError) → ReadsAs r (title_of bytes) → IfOk r (λ t. IsTitle t × (bytes ≡ title_text t))
is_text bytes (Ok t) reads = let text = read_was_written bytes t reads in (text.valid, text.text)
is_text bytes (Err e) reads = tt

-- the title of a design that is just the one that was read
pub made_whole : (d made : Design) (list : Playlist) (cells : List (Option (List ℕ))) → made ≡ d → IsTitle (record { design = d; list = list; digests = filled cells }) → list_all is_some cells ≡ true
    → IsWhole (record { design = made; list = list; cells = cells })
made_whole d made list cells same valid full = record {
  title = subst (λ (e : Design). IsTitle (record { design = e; list = list; digests = filled cells })) (sym same) valid;
  full = full;
}

-- the answer for a title that was made of what was read
pub reads_made : (r : Result Title TitleReadError) (t : Title) (wanted : Result Title (LineFault TitleKind)) → wanted ≡ Ok t → IfOk r (λ made. made ≡ t) → IfErr r (λ e. e ≡ read_errors.Memory) → ReadsAs r wanted
reads_made (Ok made) t wanted is same memory = is ∙ ap (λ (y : Title). Ok y) (sym same)
reads_made (Err e) t wanted is same memory = subst (λ (x : TitleReadError). IsRefused x wanted) (sym memory) tt
