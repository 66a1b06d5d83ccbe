use Rattle.std.proofs.Common.{◌≡◌, ◌+◌, ◌≤◌, ◌∷◌, [], ◌++◌, length, take, ap, sym, subst, ◌∙◌, arith, length-take-le}
use Rattle.std.specs.Str.{IsAscii}
use Rattle.std.proofs.lemmas.List.{take_more_set, length-set}
use Rattle.sms_told.proofs.Telephones.{ascii_more}
use Rattle.sms_told.proofs.telephone.Telephone.push.Goals as goal

pub invariant_of-self : goal.invariant_of-self
invariant_of-self c =
    let count = c.self.inside.count in
    let characters = c.self.inside.characters in
    let few : length c.args.self.now ≤ 20 = c.requires.few in
    let size : length (take count characters) ≡ count = length-take-le count characters c.self.invariant.0 in
    let same = ap length c.self.view_is in
    let more = take_more_set characters count c.args.character (omega (arith, few, size, same, c.self.told)) in (
      omega (arith, few, size, same, c.self.told, length-set characters count c.args.character),
      subst IsAscii (sym more) (ascii_more (take count characters) c.args.character c.self.invariant.1 c.requires.ascii),
    )
