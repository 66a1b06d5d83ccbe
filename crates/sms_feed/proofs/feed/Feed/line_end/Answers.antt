use Rattle.std.proofs.Common.{◌≡◌, ◌⊎◌, ◌<◌, ◌==◌, ℕ, List, true, length, sym, ap, ◌∙◌, rules, inl, inr, true≢false}
use Rattle.memchr.specs.Find.{Nowhere, Passes, is_byte}
use Rattle.sms_script.specs.Lines.{line_feed}
use Rattle.sms_feed.proofs.PlaceLemmas.{ends_at_feed, ends_at_last, no_feed, some_left, none_left}
use Rattle.sms_feed.proofs.feed.Feed.line_end.Goals.{then-not-is_empty, else-not-is_empty, else-self-via-then-self+else-self-2, else-self-via-else-self}
use Rattle.sms_feed.proofs.feed.Feed.line_end.Goals as goal

pub returns-in-Some : goal.returns-in-Some
returns-in-Some c = ends_at_feed c.args.self.now c.in-Some.length (rw c.left-left.ensures at c.in-Some.ensures)

pub returns-then-self-2 : goal.returns-then-self-2
returns-then-self-2 c =
    let left : List ℕ = c.args.self.now.left in
    let none : Nowhere (Passes (is_byte line_feed) left) 0 (length left) = rw c.left-left.ensures at c.in_default.ensures in
    let ended : c.args.self.now.has_ended ≡ true = search rules in
    let some : (0 < length left) ⊎ (c.args.self.now.is_long ≡ true) = elim c.if-not-is_empty.branch [
      | then-not-is_empty w ↦ inl (some_left left (sym w.if-not-is_empty.true ∙ c.is_empty.ensures ∙ ap (λ (l : List ℕ). length l == 0) c.left-left.ensures))
      | else-not-is_empty w ↦ inr (sym (ap (λ v. v.is_long) c.self.view_is) ∙ sym w.value-is ∙ c.if-self-2.true)
    ] in
    ends_at_last c.args.self.now (length c.left-left.result.now) (no_feed left none) (ap length c.left-left.ensures) ended some

pub returns : goal.returns
returns c =
    let left : List ℕ = c.args.self.now.left in
    let none : Nowhere (Passes (is_byte line_feed) left) 0 (length left) = rw c.left-left.ensures at c.in_default.ensures in
    record {
      no_feed = no_feed left none;
      ended = λ e. elim c.else-self.branch [
        | else-self-via-then-self+else-self-2 w ↦ elim w.if-not-is_empty.branch [
          | then-not-is_empty w' ↦ absurd (cc w'.if-not-is_empty.true)
          | else-not-is_empty w' ↦ (
            none_left left (sym w'.if-not-is_empty.false ∙ w.is_empty.ensures ∙ ap (λ (l : List ℕ). length l == 0) c.left-left.ensures),
            sym (ap (λ v. v.is_long) c.self.view_is) ∙ sym w'.value-is ∙ w.if-self-2.false,
          )
        ]
        | else-self-via-else-self w ↦ absurd (true≢false (sym e ∙ sym (ap (λ v. v.has_ended) c.self.view_is) ∙ w.if-self.false))
      ];
    }
