use Rattle.std.proofs.Common.{◌≡◌, ℕ, ◌+◌, ◌-◌, ◌≤◌, List, ◌++◌, length, replicate, sym, ap, ◌∙◌, arith}
use Rattle.std.proofs.lemmas.List.{append_assoc, replicate-append-replicate}
use Rattle.sms_field.specs.Address.Padded.{padded}
use Rattle.sms_join.specs.Inside.KeyTags.{symbols_in, symbols_of}
use Rattle.sms_join.proofs.key_hash.room_of.Goals as goal

-- a room of eleven, in one of twenty
further : (symbols : List ℕ) → length symbols ≤ 11 → padded 11 symbols ++ replicate 9 0 ≡ padded 20 symbols
unfolding padded
further symbols few =
    let long : (11 - length symbols) + 9 ≡ 20 - length symbols = omega arith in
    append_assoc symbols (replicate (11 - length symbols) 0) (replicate 9 0)
    ∙ ap (λ l. symbols ++ l) (replicate-append-replicate (11 - length symbols) 9 0 ∙ ap (λ n. replicate n 0) long)

pub returns-in-Name : goal.returns-in-Name
returns-in-Name c =
    ap (λ l. l ++ replicate 9 0) (c.copy_from_slice.ensures.after ∙ c.as_room-own.ensures.value)
    ∙ (further c.in-Name.name c.as_room-own.ensures.few
    ∙ ap (padded 20) (sym (ap symbols_in c.in-Name.is) ∙ ap symbols_of c.address.view_is))
