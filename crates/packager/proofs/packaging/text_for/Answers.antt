use Rattle.std.proofs.Common.{◌≡◌, ◌∙◌, subst, Ok, IfOk}
use Rattle.playlist_terms.specs.Playlists.{Playlist, playlist_text}
use Rattle.playlist_terms.specs.Reading.{playlist_of}
use Rattle.packaging_terms.specs.Licensees.{licensed_list}
use Rattle.packager.proofs.Words.{is_word_for}
use Rattle.packager.proofs.packaging.text_for.Goals as goal

pub marked_list-requires : goal.marked_list-requires
marked_list-requires g c =
    (is_word_for c.args.title.now c.args.register.now c.args.serial _ c.args.message c.in_ok-word.word c.in_ok-word.ensures.valid c.requires.fits c.requires.field c.requires.message c.in_ok-word.ensures.symbols).symbols

pub returns-clause-text : goal.returns-clause-text
returns-clause-text g c =
    let word = is_word_for c.args.title.now c.args.register.now c.args.serial _ c.args.message c.in_ok-word.word c.in_ok-word.ensures.valid c.requires.fits c.requires.field c.requires.message c.in_ok-word.ensures.symbols in
    let list : c.in_ok-list.list ≡ licensed_list c.args.title.now c.args.register.now c.args.serial = c.in_ok-list.ensures ∙ word.list in
    subst (λ (l : Playlist). IfOk c.write.result (λ text. text.items ≡ playlist_text l)) list c.write.ensures.text

pub returns-clause-again : goal.returns-clause-again
returns-clause-again g c =
    let word = is_word_for c.args.title.now c.args.register.now c.args.serial _ c.args.message c.in_ok-word.word c.in_ok-word.ensures.valid c.requires.fits c.requires.field c.requires.message c.in_ok-word.ensures.symbols in
    let list : c.in_ok-list.list ≡ licensed_list c.args.title.now c.args.register.now c.args.serial = c.in_ok-list.ensures ∙ word.list in
    subst (λ (l : Playlist). IfOk c.write.result (λ text. playlist_of text.items ≡ Ok l)) list c.write.ensures.again
