-- The layout both ways. Assumes nothing.
use Rattle.std.proofs.Common.{◌≡◌, ℕ, zero, suc, ◌+◌, ◌*◌, ◌/◌, ◌%◌, ◌^◌, ◌<◌, Bool, true, false, not, ◌&&◌, T, eqb, leb, List, [], ◌∷◌, ◌++◌, length, get_or, take, drop, ℤ, pos, negsuc, ◌≤ℤ◌, is_some, IfOk, Some, None, Ok, Err, Result, sym, refl, ap, ◌∙◌, ap₂, inl, inr, mod-eq_of_lt, arith, lit<, leb→le, length-append, w8, w32, SFits, to_z, of_z}
use native.Mathlib.Nat.{div-div-eq-div-mul}
use lib.Signed.{le_z, mag}
use mir.Facts.{Fits-of_z}
use Rattle.std.proofs.lemmas.List.FromFn.{fill_by_all}
use Rattle.std.specs.List.{AllByRecursion as All}
use Rattle.std.proofs.ByRecursion.{All-append, All-get_or}
use Rattle.std.proofs.lemmas.List.{take_all, take-append-le, drop-append-le, drop_all, get_or-drop, get_or_past}
use Rattle.std.proofs.lemmas.Int.{to_z-of_z, of_z-to_z}
use Rattle.std.proofs.lemmas.Bool.{and_parts, and_from, eqb-true, eq-eqb, ne_eqb, leb-true, cases_lt}
use Rattle.record.specs.declared.units.Unit.{Unit as Measure}
use Rattle.record.specs.declared.units.Unit.TheVariants.{Plain, Metre, Bar, Celsius, Second, Ampere, Volt, Revolution}
use Rattle.record.specs.declared.fields.Exponent.{Exponent as Power}
use Rattle.record.specs.declared.fields.Number.{Number as Figure}
use Rattle.record.specs.declared.fields.Record.{Record}
use Rattle.record.specs.declared.refusals.RecordError.{RecordError}
use Rattle.record.specs.declared.refusals.RecordError.TheVariants.{Exponent, Name, Number, Length}
use Rattle.record.specs.Ranges.{exponent_fits, number_fits, printable}
use Rattle.record.specs.Units.{code_of, unit_at}
use Rattle.record.specs.Refusals.{refusal, refused, check}
use Rattle.record.specs.Making.{parts_of, parts_refusal}
use Rattle.record.specs.Layout.{four_bytes, four_at, head_bytes, layout, parts_at, bytes_refusal, is_record, Rereads}
use Rattle.record.specs.Values.{same_parts, same, same_bytes}
use Rattle.record.proofs.Equal.{records_equal}
use Rattle.record.proofs.Order.{same_parts as each_equal}

-- ---- units

unit_at_code : (u : Measure) → unit_at (code_of u) ≡ Some u
unit_at_code Plain = refl
unit_at_code Metre = refl
unit_at_code Bar = refl
unit_at_code Celsius = refl
unit_at_code Second = refl
unit_at_code Ampere = refl
unit_at_code Volt = refl
unit_at_code Revolution = refl

-- a code that has a unit is the code of that unit
code_at : (b : ℕ) (u : Measure) → unit_at b ≡ Some u → code_of u ≡ b
code_at zero u e = let f : u ≡ Plain = cc in ap code_of f
code_at (suc zero) u e = let f : u ≡ Metre = cc in ap code_of f
code_at (suc (suc zero)) u e = let f : u ≡ Bar = cc in ap code_of f
code_at (suc (suc (suc zero))) u e = let f : u ≡ Celsius = cc in ap code_of f
code_at (suc (suc (suc (suc zero)))) u e = let f : u ≡ Second = cc in ap code_of f
code_at (suc (suc (suc (suc (suc zero))))) u e = let f : u ≡ Ampere = cc in ap code_of f
code_at (suc (suc (suc (suc (suc (suc zero)))))) u e = let f : u ≡ Volt = cc in ap code_of f
code_at (suc (suc (suc (suc (suc (suc (suc zero))))))) u e = let f : u ≡ Revolution = cc in ap code_of f
code_at (suc (suc (suc (suc (suc (suc (suc (suc b)))))))) u e = absurd (let z : ◌≡◌ {A = ℕ} 0 1 = cc in omega arith)

-- ---- signed parts

size : (lo hi b : ℕ) (z : ℤ) → lo < b → hi < b → negsuc lo ≤ℤ z → z ≤ℤ pos hi → mag z < b
size lo hi b (pos n) p q l h = let e = leb→le n hi h.le in omega arith
size lo hi b (negsuc n) p q l h = let e = leb→le n lo l.le in omega arith

pub exponent_width : (x : Power) → SFits w8 x.value
exponent_width x = record { sfits = size 3 4 (2 ^ 7) x.value (lit< tt) (lit< tt) x.low x.high }

pub number_width : (x : Figure) → SFits w32 x.value
number_width x = record { sfits = size 8999999 9000000 (2 ^ 31) x.value (lit< tt) (lit< tt) x.low x.high }

holds : (b : Bool) → T b → b ≡ true
holds true t = refl
holds false t = absurd t

le_test : (a b : ℤ) → a ≤ℤ b → le_z a b ≡ true
le_test a b h = holds (le_z a b) h.le

exponent_passes : (x : Power) → exponent_fits x.value ≡ true
exponent_passes x = and_from _ _ (le_test _ _ x.low) (le_test _ _ x.high)

number_passes : (x : Figure) → number_fits x.value ≡ true
number_passes x = and_from _ _ (le_test _ _ x.low) (le_test _ _ x.high)

-- ---- four bytes

-- each quotient by 256 of the one before
nested : (n : ℕ) → (n / 65536 ≡ n / 256 / 256) × (n / 16777216 ≡ n / 256 / 256 / 256)
nested n = (
  sym (div-div-eq-div-mul n 256 256),
  sym (ap (λ m. m / 256) (div-div-eq-div-mul n 256 256) ∙ div-div-eq-div-mul n 65536 256),
)

number_of_bytes : (n : ℕ) → n < 2 ^ 32 → four_at (four_bytes n) 0 ≡ n
number_of_bytes n h =
    let e = nested n in
    let a = e.0 in
    let b = e.1 in
    let top : n / 256 / 256 / 256 < 256 = omega arith in
    let same : n / 256 / 256 / 256 % 256 ≡ n / 256 / 256 / 256 = mod-eq_of_lt top in
    let first : n / 16777216 % 256 ≡ n / 256 / 256 / 256 = ap (λ m. m % 256) b ∙ same in
    let second : n / 65536 % 256 ≡ n / 256 / 256 % 256 = ap (λ m. m % 256) a in
    omega arith

bytes_of_number : (a b c d : ℕ) → a < 256 → b < 256 → c < 256 → d < 256
    → four_bytes (a * 16777216 + b * 65536 + c * 256 + d) ≡ a ∷ b ∷ c ∷ d ∷ []
bytes_of_number a b c d ha hb hc hd =
    let n = a * 16777216 + b * 65536 + c * 256 + d in
    let e : n / 16777216 % 256 ≡ a = omega arith in
    let f : n / 65536 % 256 ≡ b = omega arith in
    let g : n / 256 % 256 ≡ c = omega arith in
    let i : n % 256 ≡ d = omega arith in
    cc

word_fits : (a b c d : ℕ) → a < 256 → b < 256 → c < 256 → d < 256 → a * 16777216 + b * 65536 + c * 256 + d < 2 ^ 32
word_fits a b c d ha hb hc hd = omega arith

-- ---- bytes, record, bytes

-- 24 bytes by their parts
by_parts : (x : List ℕ) → length x ≡ 24
    → get_or x 0 0 ∷ get_or x 1 0 ∷ get_or x 2 0 ∷ get_or x 3 0 ∷ (take 16 (drop 4 x) ++ (get_or x 20 0 ∷ get_or x 21 0 ∷ get_or x 22 0 ∷ get_or x 23 0 ∷ [])) ≡ x
by_parts x h =
    let e = fill_by_all (λ k. get_or x k 0) x 24 0 h (λ k l. refl) in
    ap (λ y. get_or x 0 0 ∷ get_or x 1 0 ∷ get_or x 2 0 ∷ get_or x 3 0 ∷ (take 16 (drop 4 y) ++ (get_or x 20 0 ∷ get_or x 21 0 ∷ get_or x 22 0 ∷ get_or x 23 0 ∷ []))) e ∙ sym e

rewritten : (x : List ℕ) (y : Record) → length x ≡ 24 → ((i : ℕ) → get_or x i 0 < 256)
    → parts_of y ≡ parts_at x → layout y ≡ x
unfolding layout
rewritten x y h b m =
    let b0 = b 0 in
    let b1 = b 1 in
    let p = ap (λ q. q.parameter) m in
    let p0 : y.parameter / 256 ≡ get_or x 0 0 = omega arith in
    let p1 : y.parameter % 256 ≡ get_or x 1 0 = omega arith in
    let u = code_at (get_or x 2 0) y.unit (sym (ap (λ q. q.unit) m)) in
    let e = ap (of_z w8) (ap (λ q. q.exponent) m) ∙ of_z-to_z w8 (get_or x 3 0) (b 3) in
    let z =
    ap (λ v. four_bytes (of_z w32 v)) (ap (λ q. q.number) m)
    ∙ ap four_bytes (of_z-to_z w32 (four_at x 20) (word_fits _ _ _ _ (b 20) (b 21) (b 22) (b 23)))
    ∙ bytes_of_number _ _ _ _ (b 20) (b 21) (b 22) (b 23) in
    ap₂ (λ s t. s ∷ t ∷ code_of y.unit ∷ of_z w8 y.exponent.value ∷ (y.name.bytes ++ four_bytes (of_z w32 y.number.value))) p0 p1
    ∙ ap₂ (λ s t. get_or x 0 0 ∷ get_or x 1 0 ∷ s ∷ t ∷ (y.name.bytes ++ four_bytes (of_z w32 y.number.value))) u e
    ∙ ap₂ (λ s t. get_or x 0 0 ∷ get_or x 1 0 ∷ get_or x 2 0 ∷ get_or x 3 0 ∷ (s ++ t)) (ap (λ q. q.name) m) z
    ∙ by_parts x h

-- ---- record, bytes, record

pub name_long : (r : Record) → length r.name.bytes ≡ 16
name_long r = eqb-true _ _ (and_parts (eqb (length r.name.bytes) 16) (printable r.name.bytes) r.name.readable).0

name_part : (a b : List ℕ) → length a ≡ 16 → take 16 (a ++ b) ≡ a
name_part a b h = take-append-le 16 a b (omega arith) ∙ take_all 16 a (omega arith)

number_part : (a b : List ℕ) → length a ≡ 16 → drop 16 (a ++ b) ≡ b
number_part a b h = drop-append-le 16 a b (omega arith) ∙ ap (λ l. l ++ b) (drop_all 16 a (omega arith))

unsigned : (x : Figure) → of_z w32 x.value < 2 ^ 32
unsigned x = (Fits-of_z (number_width x)).fits

-- different records have different bytes
pub one_to_one : (r s : Record) → layout r ≡ layout s → r ≡ s
unfolding layout
one_to_one r s e =
    let p : r.parameter / 256 ≡ s.parameter / 256 = ap (λ l. get_or l 0 0) e in
    let q : r.parameter % 256 ≡ s.parameter % 256 = ap (λ l. get_or l 1 0) e in
    let u : code_of r.unit ≡ code_of s.unit = ap (λ l. get_or l 2 0) e in
    let v : Some r.unit ≡ Some s.unit = sym (unit_at_code r.unit) ∙ ap unit_at u ∙ unit_at_code s.unit in
    let x : of_z w8 r.exponent.value ≡ of_z w8 s.exponent.value = ap (λ l. get_or l 3 0) e in
    let tail = ap (drop 4) e in
    let n = sym (name_part _ _ (name_long r)) ∙ ap (take 16) tail ∙ name_part _ _ (name_long s) in
    let t = sym (number_part _ _ (name_long r)) ∙ ap (drop 16) tail ∙ number_part _ _ (name_long s) in
    let z : of_z w32 r.number.value ≡ of_z w32 s.number.value =
    sym (number_of_bytes _ (unsigned r.number)) ∙ ap (λ l. four_at l 0) t ∙ number_of_bytes _ (unsigned s.number) in
    records_equal r s (omega arith) (cc)
    (sym (to_z-of_z w8 _ (exponent_width r.exponent)) ∙ ap (to_z w8) x ∙ to_z-of_z w8 _ (exponent_width s.exponent))
    n
    (sym (to_z-of_z w32 _ (number_width r.number)) ∙ ap (to_z w32) z ∙ to_z-of_z w32 _ (number_width s.number))

-- the bytes of a record are 24
pub layout_long : (r : Record) → length (layout r) ≡ 24
unfolding layout
layout_long r = let h = name_long r in simp length-append (omega arith)

-- the four bytes after twenty others
last_four : (a b c d : ℕ) (n t : List ℕ) → length n ≡ 16 → four_at (a ∷ b ∷ c ∷ d ∷ (n ++ t)) 20 ≡ four_at t 0
last_four a b c d n t h =
    let e = number_part n t h in
    let at : (i : ℕ) → get_or (n ++ t) (16 + i) 0 ≡ get_or t i 0 = λ i. sym (get_or-drop 16 (n ++ t) i 0) ∙ ap (λ l. get_or l i 0) e in
    let e0 = at 0 in
    let e1 = at 1 in
    let e2 = at 2 in
    let e3 = at 3 in
    omega arith

-- the bytes of a record have its parts
pub layout_parts : (r : Record) → parts_at (layout r) ≡ parts_of r
unfolding layout
layout_parts r =
    let n = r.name.bytes in
    let z = r.number.value in
    let t = four_bytes (of_z w32 z) in
    let read = last_four (r.parameter / 256) (r.parameter % 256) (code_of r.unit) (of_z w8 r.exponent.value) n t (name_long r) in
    each_equal (omega arith) (unit_at_code r.unit) (to_z-of_z w8 _ (exponent_width r.exponent)) (name_part n t (name_long r))
    (ap (to_z w32) (read ∙ number_of_bytes (of_z w32 z) (unsigned r.number)) ∙ to_z-of_z w32 z (number_width r.number))

-- the parts of a record are not refused
parts_pass : (r : Record) → parts_refusal (parts_of r) ≡ None
parts_pass r = passes _ _ _ (exponent_passes r.exponent) r.name.readable (number_passes r.number) where
  passes : (a b c : Bool) → a ≡ true → b ≡ true → c ≡ true → check a Exponent (check b Name (check c Number None)) ≡ None
  passes a b c ha hb hc = cc

-- nor are its bytes
layout_passes : (r : Record) → bytes_refusal (layout r) ≡ None
layout_passes r = ap₂ (λ t q. check t Length (parts_refusal q)) (eq-eqb _ _ (layout_long r)) (layout_parts r) ∙ parts_pass r

-- a record lies in its bytes
pub layout_lies : (r : Record) → is_record (layout r) ≡ true
unfolding is_record
layout_lies r = ap (λ o. not (is_some o)) (layout_passes r)

-- sameness by the bytes is sameness of the records
pub layout_same : (r s : Record) → same_bytes (layout r) (layout s) ≡ same r s
unfolding same_bytes
layout_same r s = ap₂ same_parts (layout_parts r) (layout_parts s)

-- ---- each byte is below 256

-- the code of a unit is a byte
code_small : (u : Measure) → code_of u < 256
code_small Plain = lit< tt
code_small Metre = lit< tt
code_small Bar = lit< tt
code_small Celsius = lit< tt
code_small Second = lit< tt
code_small Ampere = lit< tt
code_small Volt = lit< tt
code_small Revolution = lit< tt

-- printable characters are bytes
printable_small : (x : List ℕ) → printable x ≡ true → All (λ b. b < 256) x
printable_small [] h = tt
printable_small (b ∷ x) h =
    let p = and_parts (leb 32 b && leb b 126) (printable x) h in
    let q = leb-true b 126 (and_parts (leb 32 b) (leb b 126) p.0).1 in
    (omega arith, printable_small x p.1)

-- so are parameter, unit and exponent in the layout
head_small : (r : Record) → r.parameter < 2 ^ 16 → All (λ b. b < 256) (head_bytes r)
head_small r p = (omega arith, (omega arith, (code_small r.unit, ((Fits-of_z (exponent_width r.exponent)).fits, tt))))

-- and the four bytes of a number
four_small : (n : ℕ) → All (λ b. b < 256) (four_bytes n)
four_small n = (omega arith, (omega arith, (omega arith, (omega arith, tt))))

-- and the name
name_small : (r : Record) → All (λ b. b < 256) r.name.bytes
name_small r = printable_small r.name.bytes (and_parts (eqb (length r.name.bytes) 16) (printable r.name.bytes) r.name.readable).1

-- so the bytes of a record are bytes
layout_all_small : (r : Record) → r.parameter < 2 ^ 16 → All (λ b. b < 256) (layout r)
unfolding layout
layout_all_small r p =
    All-append (λ b. b < 256) (head_bytes r) (r.name.bytes ++ four_bytes (of_z w32 r.number.value)) (head_small r p)
    (All-append (λ b. b < 256) r.name.bytes (four_bytes (of_z w32 r.number.value)) (name_small r) (four_small (of_z w32 r.number.value)))

-- each of them is below 256, and so is what is read after them
pub layout_small : (r : Record) → r.parameter < 2 ^ 16 → (j : ℕ) → get_or (layout r) j 0 < 256
layout_small r p j =
    elim (cases_lt j (length (layout r))) [
      | inl h ↦ All-get_or (λ b. b < 256) (layout r) j 0 h (layout_all_small r p)
      | inr h ↦ rw (get_or_past (layout r) j 0 h) (lit< tt)
    ]

-- bytes that are not refused, although the answer was a refusal
never : (f : RecordError) (x : List ℕ) → Some (refusal f) ≡ bytes_refusal x → bytes_refusal x ≡ None → ⊥
never f x h e = some_none (h ∙ e) where
  some_none : {n : ℕ} → Some n ≡ None → ⊥
  some_none q = let z : ◌≡◌ {A = ℕ} 0 1 = cc in omega arith

-- what was read from the bytes of a record is that record
reread : (x : List ℕ) (a : Result Record RecordError) → refused a ≡ bytes_refusal x → IfOk a (λ y. layout y ≡ x) → Rereads x a
reread x (Ok y) h m z e = ap Ok (one_to_one y z (m ∙ sym e))
reread x (Err f) h m z e = absurd (never f x h (ap bytes_refusal (sym e) ∙ layout_passes z))

-- ---- the answer of reading

pub record Reads (x : List ℕ) (a : Result Record RecordError) : Type 0 where
  pub refuses : refused a ≡ bytes_refusal x
  pub rewrites : IfOk a (λ y. layout y ≡ x)
  pub rereads : Rereads x a

-- bytes that are not 24 hold no record
pub not_long : (x : List ℕ) → (length x ≡ 24 → ⊥) → Reads x (Err Length)
not_long x n = record { refuses = refuses; rewrites = tt; rereads = reread x (Err Length) refuses tt } where
  refuses : Some 5 ≡ bytes_refusal x
  refuses = ap (λ t. check t Length (parts_refusal (parts_at x))) (sym (ne_eqb _ _ n))

-- 24 bytes are read by their parts
pub long : (x : List ℕ) (a : Result Record RecordError) → length x ≡ 24 → ((i : ℕ) → get_or x i 0 < 256)
    → refused a ≡ parts_refusal (parts_at x) → IfOk a (λ y. parts_of y ≡ parts_at x) → Reads x a
long x a h b r m = record { refuses = refuses; rewrites = writes a m; rereads = reread x a refuses (writes a m) } where
  refuses : refused a ≡ bytes_refusal x
  refuses = r ∙ ap (λ t. check t Length (parts_refusal (parts_at x))) (sym (eq-eqb _ _ h))

  writes : (c : Result Record RecordError) → IfOk c (λ y. parts_of y ≡ parts_at x) → IfOk c (λ y. layout y ≡ x)
  writes (Ok y) s = rewritten x y h b s
  writes (Err f) s = tt
