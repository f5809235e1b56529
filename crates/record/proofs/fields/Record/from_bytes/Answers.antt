use Rattle.std.proofs.Common.{◌≡◌, length, ap, sym, ◌∙◌, rules}
use Rattle.record.proofs.Whole.{layout_long, long}
use Rattle.record.proofs.fields.Record.from_bytes.Goals as goal

pub returns-in_err-bytes-clause-rereads : goal.returns-in_err-bytes-clause-rereads
returns-in_err-bytes-clause-rereads c = λ x h. let n : length c.args.bytes.now ≡ 24 = ap length (sym h) ∙ layout_long x in search rules

pub returns-clause-refuses : goal.returns-clause-refuses
returns-clause-refuses c =
    let e : c.in_ok-bytes.bytes ≡ c.args.bytes.now = search rules in
    let n : length c.args.bytes.now ≡ 24 = search rules in
    (long _ _ n (λ i. (c.type_inv.bytes i).fits) (rw (← e) c.read.ensures.refuses) (rw (← e) c.read.ensures.holds)).refuses

pub returns-clause-rewrites : goal.returns-clause-rewrites
returns-clause-rewrites c =
    let e : c.in_ok-bytes.bytes ≡ c.args.bytes.now = search rules in
    let n : length c.args.bytes.now ≡ 24 = search rules in
    (long _ _ n (λ i. (c.type_inv.bytes i).fits) (rw (← e) c.read.ensures.refuses) (rw (← e) c.read.ensures.holds)).rewrites

pub returns-clause-rereads : goal.returns-clause-rereads
returns-clause-rereads c =
    let e : c.in_ok-bytes.bytes ≡ c.args.bytes.now = search rules in
    let n : length c.args.bytes.now ≡ 24 = search rules in
    (long _ _ n (λ i. (c.type_inv.bytes i).fits) (rw (← e) c.read.ensures.refuses) (rw (← e) c.read.ensures.holds)).rereads
