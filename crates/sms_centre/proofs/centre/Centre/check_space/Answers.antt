use Rattle.std.proofs.Common.{◌≡◌, ◌<◌, length, max, sym, ap, subst, ◌∙◌, arith, rules}
use Rattle.sms_centre.specs.Centre.Value.{CentreValue}
use Rattle.sms_centre.specs.Inside.Kept.{books_in, free_at}
use Rattle.sms_centre.proofs.Taking.{space_late, space_free}
use Rattle.sms_centre.proofs.centre.Centre.check_space.Goals as goal

pub returns-then-stamp-ge-END_OF_2099-clause-result_is : goal.returns-then-stamp-ge-END_OF_2099-clause-result_is
returns-then-stamp-ge-END_OF_2099-clause-result_is c =
    space_late c.args.self.now.limit (books_in c.args.self.now c.args.now c.args.phone c.args.submission.now) c.args.submission.now c.args.ends c.args.recipient c.max-stamp.result
    (sym c.is_duplicate.ensures ∙ c.if-is_duplicate.false)
    (subst (λ (v : CentreValue). length v.held.endings < v.limit) c.self.view_is (let n : c.count.result ≡ length c.self.inside.holdings.held.endings = c.count.ensures in omega arith))
    (c.max-stamp.ensures ∙ ap (λ n. max n c.args.now) (c.free.ensures ∙ ap (λ (v : CentreValue). free_at v.lines c.args.recipient) c.self.view_is))
    c.if-stamp-ge-END_OF_2099.true

pub returns-clause-result_is : goal.returns-clause-result_is
returns-clause-result_is c =
    space_free c.args.self.now.limit (books_in c.args.self.now c.args.now c.args.phone c.args.submission.now) c.args.submission.now c.args.ends c.args.recipient c.max-stamp.result
    (sym c.is_duplicate.ensures ∙ c.if-is_duplicate.false)
    (subst (λ (v : CentreValue). length v.held.endings < v.limit) c.self.view_is (let n : c.count.result ≡ length c.self.inside.holdings.held.endings = c.count.ensures in omega arith))
    (c.max-stamp.ensures ∙ ap (λ n. max n c.args.now) (c.free.ensures ∙ ap (λ (v : CentreValue). free_at v.lines c.args.recipient) c.self.view_is))
    c.if-stamp-ge-END_OF_2099.false

pub returns-then-count-self-clause-result_is : goal.returns-then-count-self-clause-result_is
returns-then-count-self-clause-result_is c = search rules
