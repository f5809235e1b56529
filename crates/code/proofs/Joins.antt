-- What is known of a join once its tests have passed: n, k and w are what the code's functions returned.
use Rattle.std.proofs.Common.{◌≡◌, ℕ, true, T, eqb, List, length, take, None, sym, ap, ◌∙◌, subst, ap₂}
use lib.ListN.{length-map}
use Rattle.std.proofs.lemmas.Bool.{and_parts, eqb-true}
use Rattle.code.specs.declared.calls.CodeError.TheVariants.{Number, Size, Order}
use Rattle.code.specs.declared.calls.Piece.{Piece}
use Rattle.code.specs.Meaning.{Meaning, Lawful, Chosen, Enough, AllBytes, all_below, rising}
use Rattle.code.specs.Calls.{number_of, bytes_of, numbers_of, contents_of, all_long, fitting, check, join_refusal, cut}

module _ (m : Meaning) (law : Lawful m) (xs : List Piece) (room k w : ℕ) (k_is : k ≡ m.k) (w_is : w ≡ m.w) (fits : true ≡ fitting room k w (contents_of xs)) where
  sizes : (eqb (length (contents_of xs)) k ≡ true) × (all_long w (contents_of xs) ≡ true)
  sizes = and_parts _ _ (and_parts (eqb room 24) _ (sym fits)).1

  content_count : length (contents_of xs) ≡ m.k
  content_count = eqb-true (length (contents_of xs)) k sizes.0 ∙ k_is

  count : length xs ≡ m.k
  count = sym (length-map xs bytes_of) ∙ content_count

  module _ (n : ℕ) (n_is : n ≡ m.n) (known : true ≡ all_below n (numbers_of xs)) (order : true ≡ rising (numbers_of xs)) where
    below : true ≡ all_below m.n (numbers_of xs)
    below = known ∙ ap (λ a. all_below a (numbers_of xs)) n_is

    chosen : Chosen m.k m.n (numbers_of xs)
    chosen = record { count = length-map xs number_of ∙ count; below = subst T below tt; rise = subst T order tt }

    pub joinable : AllBytes w (contents_of xs) → Enough m (numbers_of xs) (contents_of xs)
    joinable bytes = record { chosen = chosen; count = content_count; bytes = subst (λ a. AllBytes a (contents_of xs)) w_is bytes }

    pub carried_out : None ≡ join_refusal m (numbers_of xs) (contents_of xs) room
    carried_out =
        ap (λ t. check t Order None) order
        ∙ ap (λ t. check t Size (check (rising (numbers_of xs)) Order None)) (fits ∙ ap₂ (λ a b. fitting room a b (contents_of xs)) k_is w_is)
        ∙ ap (λ t. check t Number (check (fitting room m.k m.w (contents_of xs)) Size (check (rising (numbers_of xs)) Order None))) below

    -- decoding what was gathered joins the pieces
    pub decoded : (numbers parts whole : List ℕ) → take (length xs) numbers ≡ numbers_of xs → cut (length xs) w parts ≡ contents_of xs
        → (Chosen m.k m.n (take m.k numbers) → whole ≡ m.join (take m.k numbers) (cut m.k m.w parts))
        → whole ≡ m.join (numbers_of xs) (contents_of xs)
    decoded numbers parts whole front pieces decodes =
        let taken = ap (λ a. take a numbers) (sym count) ∙ front in
        decodes (subst (Chosen m.k m.n) (sym taken) chosen)
        ∙ ap₂ m.join taken (ap₂ (λ a b. cut a b parts) (sym count) (sym w_is) ∙ pieces)
