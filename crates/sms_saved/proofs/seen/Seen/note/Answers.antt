use Rattle.std.proofs.Common.{◌≡◌, ◌∙◌, ◌++◌, ◌∷◌, [], ap, not, false, List, ℕ}
use Rattle.sms_saved.specs.Fits.{is_among}
use Rattle.sms_saved.proofs.SeenKeys.{noted}
use Rattle.sms_saved.proofs.seen.Seen.note.Goals as goal

pub returns-clause-is_new : goal.returns-clause-is_new
returns-clause-is_new c =
    c.in_ok-is_new.ensures.added
    ∙ ap (λ (k : List ℕ). not (is_among c.self.inside.keys.keys k)) c.new.ensures
    ∙ ap (λ (l : List (List ℕ)). not (is_among l c.args.key.now)) c.self.view_is

pub returns-clause-noted : goal.returns-clause-noted
returns-clause-noted c = λ new.
    let keys : List (List ℕ) = c.self.inside.keys.keys in
    let none : is_among keys c.new.result ≡ false = ap (is_among keys) c.new.ensures ∙ (ap (λ (l : List (List ℕ)). is_among l c.args.key.now) c.self.view_is ∙ new) in
    noted keys c.insert_full.new.self.keys c.new.result none c.in_ok-is_new.ensures.keys
    ∙ ap (λ (k : List ℕ). keys ++ k ∷ []) c.new.ensures
    ∙ ap (λ (l : List (List ℕ)). l ++ c.args.key.now ∷ []) c.self.view_is
