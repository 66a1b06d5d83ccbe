use Rattle.std.proofs.Common.{arith, ◌≡◌, suc, ◌≤◌, ◌<◌, ◌⊎◌, inl, inr, true, false, List, [], ◌∷◌, ◌++◌, length, refl, sym, ap, ◌∙◌, subst}
use Rattle.std.proofs.lemmas.Bool.{leb-true}
use Rattle.sms_join.specs.declared.line.Opening.{Opening}
use Rattle.sms_join.specs.Inside.MostSets.{Follows}
use Rattle.sms_join.specs.OpenSets.{SetValue, has_set}
use Rattle.sms_join.specs.Inside.Lines.{InLine, AreInTime, AreSince, AreSeated}
use Rattle.sms_join.specs.Inside.Slots.{SlotValue, AreSlots, set_of, sets_of}
use Rattle.sms_join.specs.Inside.Turns.{AreBefore, HaveTurns}
use Rattle.sms_join.proofs.InLine.{line_opened, line_more, time_more}
use Rattle.sms_join.proofs.MostSets.{follows_more}
use Rattle.sms_join.proofs.Since.{since_more}
use Rattle.sms_join.proofs.Slots.{opened_last, slots_more, sets_more, sets_length}
use Rattle.sms_join.proofs.Turns.{turns_more}
use Rattle.sms_join.proofs.Seats.{as_many_sets, seats_opened, seats_more}
use Rattle.sms_join.proofs.open_sets.OpenSets.add.Goals.{then-index-eq0, else-index-eq0+then-self, else-index-eq0+else-self}
use Rattle.sms_join.proofs.open_sets.OpenSets.add.Goals as goal

pub invariant_of-self : goal.invariant_of-self
invariant_of-self c =
    let same = c.tidy-self-inside.ensures.sets in
    let items = c.in_err-push_back.ensures.items in (
      c.tidy-self-inside.ensures.slots c.self.invariant.0,
      subst (λ n. Follows n c.self.inside.most) (as_many_sets c.self.inside.slots.entries c.tidy-self-inside.new.slots.entries (sym same)) c.self.invariant.1,
      subst (λ os. InLine c.self.inside.turns os (sets_of c.tidy-self-inside.new.slots.entries)) (sym items) (c.tidy-self-inside.ensures.line c.self.inside.turns c.self.invariant.2),
      λ e. subst (AreInTime c.self.inside.latest) (sym same) (c.self.invariant.3 e),
      subst (AreSince c.self.inside.earliest) (sym same) c.self.invariant.4,
      subst (λ os. AreSeated c.tidy-self-inside.result os c.tidy-self-inside.new.slots.entries) (sym items) (c.tidy-self-inside.ensures.seats c.self.inside.turns c.self.invariant.2 c.self.invariant.5),
      (let a = c.tidy-self-inside.ensures.end in let b = c.self.invariant.6 in let d = ap (λ (l : List Opening). length l) items in omega arith),
    )

longer : (os ps : List Opening) (o : Opening) → ps ≡ os ++ o ∷ [] → length ps ≡ suc (length os)
longer os ps o e = ap (λ (l : List Opening). length l) e ∙ more os
  where
    more : (ls : List Opening) → length (ls ++ o ∷ []) ≡ suc (length ls)
    more [] = refl
    more (x ∷ ls) = ap suc (more ls)

pub invariant_of-self-in_err-insert : goal.invariant_of-self-in_err-insert
invariant_of-self-in_err-insert c =
    let entries : c.insert.new.self.entries ≡ c.tidy-self-inside.new.slots.entries = c.in_err-insert.ensures.err in
    let same : sets_of c.insert.new.self.entries ≡ sets_of c.self.inside.slots.entries = ap sets_of entries ∙ c.tidy-self-inside.ensures.sets in
    let o : Opening = record { turn = c.self.inside.turns; index = c.len-index.result } in (
      subst AreSlots (sym entries) (c.tidy-self-inside.ensures.slots c.self.invariant.0),
      subst (λ n. Follows n c.self.inside.most) (as_many_sets c.self.inside.slots.entries c.insert.new.self.entries (sym same)) c.self.invariant.1,
      subst (λ es. InLine c.in_ok-next.next c.push_back.new.self.items (sets_of es)) (sym entries)
          (line_opened c.self.inside.turns c.in_ok-next.next c.tidy-self-inside.new.line.items c.push_back.new.self.items o (sets_of c.tidy-self-inside.new.slots.entries)
          c.in_ok-next.ensures refl c.in_ok-push_back.ensures.items (c.tidy-self-inside.ensures.line c.self.inside.turns c.self.invariant.2)),
      λ e. subst (AreInTime c.self.inside.latest) (sym same) (c.self.invariant.3 e),
      subst (AreSince c.self.inside.earliest) (sym same) c.self.invariant.4,
      subst (AreSeated c.tidy-self-inside.result c.push_back.new.self.items) (sym entries)
          (seats_opened c.tidy-self-inside.result c.tidy-self-inside.new.line.items c.push_back.new.self.items o c.tidy-self-inside.new.slots.entries c.in_ok-push_back.ensures.items
          (c.tidy-self-inside.ensures.seats c.self.inside.turns c.self.invariant.2 c.self.invariant.5)),
      (let a = c.tidy-self-inside.ensures.end in
          let b = c.self.invariant.6 in
          let d = longer c.tidy-self-inside.new.line.items c.push_back.new.self.items o c.in_ok-push_back.ensures.items in
          let n = c.in_ok-next.ensures in
          omega arith),
    )

tidied : (c : goal.After-self-6-1) → sets_of c.tidy-self-inside.new.slots.entries ≡ sets_of c.self.inside.slots.entries
tidied c = c.tidy-self-inside.ensures.sets

closed : (c : goal.After-self-6-1) → has_set (sets_of c.tidy-self-inside.new.slots.entries) c.args.key ≡ false
closed c = ap (λ (l : List SetValue). has_set l c.args.key) (tidied c ∙ c.self.view_is) ∙ c.requires.closed

entries : (c : goal.After-self-6-1) → c.insert.new.self.entries ≡ c.tidy-self-inside.new.slots.entries ++ (c.args.key, c.new.result) ∷ []
entries c = c.in_ok-insert.ensures.entries ∙ opened_last c.tidy-self-inside.new.slots.entries c.args.key c.new.result (closed c)

more : (c : goal.After-self-6-1) → sets_of c.insert.new.self.entries ≡ sets_of c.self.inside.slots.entries ++ set_of (c.args.key, c.new.result) ∷ []
more c =
    ap sets_of (entries c)
    ∙ (sets_more c.tidy-self-inside.new.slots.entries (c.args.key, c.new.result)
    ∙ ap (λ (l : List SetValue). l ++ set_of (c.args.key, c.new.result) ∷ []) (tidied c))

turn_is : (c : goal.After-self-6-1) → c.new.result.turn ≡ c.self.inside.turns
turn_is c = ap (λ (v : SlotValue). v.turn) c.new.ensures

pub invariant_of-self-2 : goal.invariant_of-self-2
invariant_of-self-2 c =
    let index : c.len-index.result ≡ length (sets_of c.self.inside.slots.entries) = c.len-index.ensures.len ∙ sym (sets_length c.self.inside.slots.entries) in
    let o : Opening = record { turn = c.self.inside.turns; index = c.len-index.result } in
    let many : length c.tidy-self-inside.new.slots.entries ≡ length c.self.inside.slots.entries = as_many_sets c.tidy-self-inside.new.slots.entries c.self.inside.slots.entries (tidied c) in
    let line : InLine c.self.inside.turns c.tidy-self-inside.new.line.items (sets_of c.self.inside.slots.entries) =
    subst (InLine c.self.inside.turns c.tidy-self-inside.new.line.items) (tidied c) (c.tidy-self-inside.ensures.line c.self.inside.turns c.self.invariant.2) in (
      subst AreSlots (sym (entries c))
          (slots_more c.tidy-self-inside.new.slots.entries (c.args.key, c.new.result) (c.tidy-self-inside.ensures.slots c.self.invariant.0)
          (ap (λ (v : SlotValue). length v.places) c.new.ensures ∙ c.requires.places)),
      follows_more (length c.self.inside.slots.entries) (length c.insert.new.self.entries) c.self.inside.most c.max-self-inside.result c.self.invariant.1
          (omega (arith, many, c.in_ok-insert.ensures.len)) (omega (arith, c.max-self-inside.ensures, c.len-2.ensures)),
      line_more c.self.inside.turns c.in_ok-next.next c.tidy-self-inside.new.line.items c.push_back.new.self.items o
          (sets_of c.self.inside.slots.entries) (sets_of c.insert.new.self.entries) (set_of (c.args.key, c.new.result)) c.in_ok-next.ensures refl index
          c.in_ok-push_back.ensures.items (more c) (turn_is c) turns line,
      λ e. time_more c.args.now c.self.inside.latest (sets_of c.self.inside.slots.entries) (sets_of c.insert.new.self.entries) (set_of (c.args.key, c.new.result)) (more c)
          (ap (λ (v : SlotValue). v.opened) c.new.ensures) (subst (λ n. AreBefore n (sets_of c.self.inside.slots.entries)) (sym (turn_is c)) c.self.invariant.2.turns.before)
          (early index e),
      since_more c.earliest_with-self-inside.result c.self.inside.earliest (sets_of c.self.inside.slots.entries) (sets_of c.insert.new.self.entries) (set_of (c.args.key, c.new.result)) (more c)
          (subst (λ n. c.earliest_with-self-inside.result ≤ n) (sym (ap (λ (v : SlotValue). v.opened) c.new.ensures)) c.earliest_with-self-inside.ensures.opened)
          (λ some. c.earliest_with-self-inside.ensures.before (subst (λ n. 0 < n) (sym index) some))
          c.self.invariant.4,
      seats_more c.tidy-self-inside.result c.tidy-self-inside.new.line.items c.push_back.new.self.items o c.tidy-self-inside.new.slots.entries c.insert.new.self.entries (c.args.key, c.new.result)
          c.in_ok-push_back.ensures.items (entries c) (c.len-index.ensures.len ∙ sym many) (turn_is c)
          (ap (λ (v : SlotValue). v.seat) c.new.ensures ∙ omega (arith, c.len.ensures, c.tidy-self-inside.new.line.ok.0))
          (c.tidy-self-inside.ensures.seats c.self.inside.turns c.self.invariant.2 c.self.invariant.5),
      (let a = c.tidy-self-inside.ensures.end in
          let b = c.self.invariant.6 in
          let d = longer c.tidy-self-inside.new.line.items c.push_back.new.self.items o c.in_ok-push_back.ensures.items in
          let n = c.in_ok-next.ensures in
          omega arith),
    )
  where
    turns : HaveTurns (suc c.self.inside.turns) (sets_of c.insert.new.self.entries)
    turns = subst (HaveTurns (suc c.self.inside.turns)) (sym (more c)) (turns_more c.self.inside.turns (sets_of c.self.inside.slots.entries) (set_of (c.args.key, c.new.result)) (turn_is c) c.self.invariant.2.turns)

    early : c.len-index.result ≡ length (sets_of c.self.inside.slots.entries) → c.if-index-eq0.self ≡ true
        → (length (sets_of c.self.inside.slots.entries) ≡ 0) ⊎ ((c.self.inside.latest ≤ c.args.now) × AreInTime c.self.inside.latest (sets_of c.self.inside.slots.entries))
    early index e = elim c.if-index-eq0.branch [
      | then-index-eq0 w ↦ inl (sym index ∙ w.if-index-eq0.true)
      | else-index-eq0+then-self w ↦ inr (leb-true c.self.inside.latest c.args.now (sym w.self-is ∙ e), c.self.invariant.3 w.if-self.true)
      | else-index-eq0+else-self w ↦ (let wrong : true ≡ false = sym e ∙ (w.self-is ∙ w.if-self.false) in absurd cc)
    ]

pub returns-clause-ok : goal.returns-clause-ok
returns-clause-ok c = (
  c.self.inside.turns,
  subst (HaveTurns c.self.inside.turns) c.self.view_is c.self.invariant.2.turns,
  more c
      ∙ (ap (λ (l : List SetValue). l ++ set_of (c.args.key, c.new.result) ∷ []) c.self.view_is
      ∙ ap (λ (s : SetValue). c.args.self.now ++ s ∷ []) (ap (λ (v : SlotValue). set_of (c.args.key, v)) c.new.ensures)),
)
