-- Numbers as they stand in bytes, read one after the other: the value and the place behind it, or the fault with its place. First one
-- number, then a width, a height or a length with its own test, then several. Assumes nothing.
use Rattle.std.specs.Prelude.{◌≡◌, ℕ, zero, suc, ◌+◌, ◌*◌, ◌%◌, Bool, cond, List, [], ◌∷◌, ltb, leb, eqb, length, get_or, Result, Ok, Err}
use Rattle.board.specs.Shape.{bad_side}
use Rattle.records.specs.declared.ReadRefusal.{ReadRefusal}
use Rattle.records.specs.declared.ReadRefusal.TheVariants.{CutShort, BadNumber, BadSide, LongList}

-- what is found at a place: a value and the place behind it, or the fault
abbrev pub Found : Type 0 → Type 0
Found A = Result (A × ℕ) ReadRefusal

abbrev pub found : {A : Type 0} → A → ℕ → Found A
found value next = Ok (value, next)

-- a number that ended before the place `next`, and began at `first`
unfoldable pub ended : ℕ → ℕ → ℕ → Found ℕ
ended first v next = cond (ltb v 4294967296) (found v next) (Err (BadNumber first))

-- the groups of a number from a place on: those before it, from `first` on, are worth v, and k more may come
unfoldable pub groups_at : ℕ → List ℕ → ℕ → ℕ → ℕ → Found ℕ
groups_at zero bytes first v at = Err (BadNumber first)
groups_at (suc k) bytes first v at =
    let b = get_or bytes at 0 in
    let worth = v * 128 + b % 128 in
    cond (leb (length bytes) at) (Err (CutShort (length bytes)))
    (cond (ltb b 128) (ended first worth (at + 1)) (groups_at k bytes first worth (at + 1)))

-- the number at a place: a first byte of 128 is refused when it is met, and five bytes are looked at
unfoldable pub number_at : List ℕ → ℕ → Found ℕ
number_at bytes at = cond (eqb (get_or bytes at 0) 128) (Err (BadNumber at)) (groups_at 5 bytes at 0 at)

-- go on behind what was found, or stop with its fault
abbrev pub behind : {A B : Type 0} → Found A → (A → ℕ → Result B ReadRefusal) → Result B ReadRefusal
behind (Err why) go = Err why
behind (Ok (value, next)) go = go value next

-- a number that is refused where a test holds of it, before reading on
abbrev pub but : (ℕ → Bool) → ReadRefusal → Found ℕ → Found ℕ
but bad why number = behind number λ v next. cond (bad v) (Err why) (found v next)

-- the same, the test in the words of a closure's results
abbrev pub TestedBy : (ℕ → Bool → Type 0) → ReadRefusal → Found ℕ → Found ℕ → Type 0
TestedBy Says why (Err other) r = r ≡ Err other
TestedBy Says why (Ok (v, next)) r = (bad : Bool) × Says v bad × (r ≡ cond bad (Err why) (found v next))

-- a width or height
unfoldable pub side_at : List ℕ → ℕ → Found ℕ
side_at bytes at = but bad_side (BadSide at) (number_at bytes at)

-- how many moves there are
unfoldable pub length_at : List ℕ → ℕ → Found ℕ
length_at bytes at = but (ltb 120) (LongList at) (number_at bytes at)

abbrev pub prepend : ℕ → Found (List ℕ) → Found (List ℕ)
prepend v numbers = behind numbers λ vs next. found (v ∷ vs) next

-- k numbers from a place on
unfoldable pub numbers_at : ℕ → List ℕ → ℕ → Found (List ℕ)
numbers_at zero bytes at = found [] at
numbers_at (suc k) bytes at = behind (number_at bytes at) λ v next. prepend v (numbers_at k bytes next)
