use Rattle.std.proofs.Common.{◌≡◌, ℕ, List, [], ◌∷◌, get_or, ◌∙◌}
use Rattle.field.specs.Matrix.{entry, skip, det3, minor}
use Rattle.field.proofs.matrix.minor.Goals as goal

-- three rows without a column, of the rows that are left
left_det : (m w : List (List ℕ)) (p q s : List ℕ) (r c : ℕ) → w ≡ get_or m (skip r 0) [] ∷ get_or m (skip r 1) [] ∷ get_or m (skip r 2) [] ∷ []
    → p ≡ entry w 0 (skip c 0) ∷ entry w 0 (skip c 1) ∷ entry w 0 (skip c 2) ∷ []
    → q ≡ entry w 1 (skip c 0) ∷ entry w 1 (skip c 1) ∷ entry w 1 (skip c 2) ∷ []
    → s ≡ entry w 2 (skip c 0) ∷ entry w 2 (skip c 1) ∷ entry w 2 (skip c 2) ∷ [] → det3 (entry (p ∷ q ∷ s ∷ [])) ≡ minor m r c
left_det m w p q s r c ew ep eq es = simp (ep, eq, es, ew)

pub returns : goal.returns
returns c =
    c.det3.ensures
    ∙ left_det c.args.m c.without.result _ _ _ c.args.r c.args.c (c.without.ensures []) (c.without-2.ensures 0) (c.without-3.ensures 0) (c.without-4.ensures 0)
