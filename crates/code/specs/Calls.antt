-- The calls of a code: which are refused, and what the others write.
use Rattle.std.specs.Prelude.{ℕ, ◌*◌, Bool, cond, ◌&&◌, List, map, length, take, drop, codes, Some, None, Ok, Err, Option, Result, ◌==◌, nat_eq, nat_lt}
use Rattle.std.specs.List.{list_all, range_with_len}
use Rattle.code.specs.declared.calls.CodeError.{CodeError}
use Rattle.code.specs.declared.calls.CodeError.TheVariants.{Number, Size, Order}
use Rattle.code.specs.declared.calls.Piece.{Piece}
use Rattle.code.specs.Meaning.{Meaning, all_below, rising}

-- The number of each refusal.
abbrev pub refusal : CodeError → ℕ
refusal Number = 20
refusal Size = 21
refusal Order = 22

-- What each refusal says.
abbrev pub sentence : CodeError → List ℕ
sentence Number = codes "no such piece number"
sentence Size = codes "a wrong size or count"
sentence Order = codes "the piece numbers do not rise"

-- The number by which a call was refused, if it was.
abbrev pub refused : Result (Unit {0}) CodeError → Option ℕ
refused (Ok u) = None
refused (Err e) = Some (refusal e)

-- Where a test fails the call is refused by e, and else it goes on to the rest.
abbrev pub check : Bool → CodeError → Option ℕ → Option ℕ
check passes e rest = cond passes rest (Some (refusal e))

-- The number of a piece.
abbrev pub number_of : Piece → ℕ
number_of p = p.number

-- The bytes of a piece.
abbrev pub bytes_of : Piece → List ℕ
bytes_of p = p.bytes.now

-- The numbers of pieces, in the order in which they are handed over.
abbrev pub numbers_of : List Piece → List ℕ
numbers_of ps = map number_of ps

-- The bytes of each piece, in the same order.
abbrev pub contents_of : List Piece → List (List ℕ)
contents_of ps = map bytes_of ps

-- Each piece has w bytes.
abbrev pub all_long : ℕ → List (List ℕ) → Bool
all_long w ps = list_all (λ p. nat_eq (length p) w) ps

-- There is a place of 24 bytes, and k pieces of w.
abbrev pub fitting : ℕ → ℕ → ℕ → List (List ℕ) → Bool
fitting room k w ps = room == 24 && (length ps == k && all_long w ps)

-- Making is refused for its number, then for the sizes of the record and of the place.
abbrev pub make_refusal : Meaning → ℕ → ℕ → ℕ → Option ℕ
make_refusal m i size room = check (nat_lt i m.n) Number (check (size == 24 && room == m.w) Size None)

-- Joining is refused for its numbers, then for the count and the sizes, then for the order of the numbers.
abbrev pub join_refusal : Meaning → List ℕ → List (List ℕ) → ℕ → Option ℕ
join_refusal m is ps room =
    check (all_below m.n is) Number (check (fitting room m.k m.w ps) Size (check (rising is) Order None))

-- What a place holds after a call: the new bytes, or where the call was refused the old ones.
abbrev pub written : Option ℕ → List ℕ → List ℕ → List ℕ
written None new old = new
written (Some e) new old = old

-- The piece at place m among pieces of w bytes that lie one after the other.
abbrev pub part : ℕ → List ℕ → ℕ → List ℕ
part w x m = take w (drop (m * w) x)

-- The k pieces of w bytes that lie one after the other.
abbrev pub cut : ℕ → ℕ → List ℕ → List (List ℕ)
cut k w x = map (part w x) (range_with_len 0 k)
