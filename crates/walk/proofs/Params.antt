-- The parameters of a function, each by its kind: what the logic wants of each for a walk is stated here once.
--     row              any type whose value is at exit what it was: a number (`number`), or a struct of numbers and `&` slices
--     lent             a `&[T]`
--     lends, gives     a `&mut [T]`: still owned at exit, at its last list; or given to a callee for good, and only the last list is known
-- Assumes nothing; the laws assume `Logic`.
use mathlib.Core.Path.{◌≡◌, refl}
use Prim.Native.Nat.{ℕ}
use mathlib.Core.List.{List, [], ◌∷◌}
use seplogic.Ra.Ura.{Ura}
use mir.Syntax.{Width, named}
use mir.Val.{Val}
use base.Fml.{ftrue}
use types.Logic.{Logic}
use contract.Lifetimes.{Lfts, Within, lft_at}
use denote.RattleType.{RattleType}
use denote.Laws.{Is, Ises, Spells, Tells, Tellss, Lawful, Lawfuls}
use denote.Plain.{UInt, uint_vals, uint_Tells, uint_Lawful}
use denote.Slice.{shr_slice_vals, mut_slice_vals, shr_slice_Tells, shr_slice_Lawful, mut_slice_Tells, mut_slice_Lawful}
use denote.Signature.{Slot, plain, mut_slice_of, shr_slice_of, types_at}
use denote.Triple.End.{all}
use denote.Triple.Walked.{Stay, Stays, stay_none, stay_none_slice, stay_slice, gave_slice, Goes, AllGo, Goes-none, Goes-none_slice, Goes-slice, Goes-gave_slice}
use denote.Exit.{yes, Last, left}

pub data Param (n : ℕ) : Type 2 where
  row : (F : Lfts n → RattleType) → ((κs : Lfts n) (x : (F κs).Denot) (f : Last ((F κs).exit yes) x) → left ((F κs).exit yes) x f ≡ ftrue)
      → (vals : (κs : Lfts n) → (F κs).Denot → List Val) → ((κs : Lfts n) → Tells (F κs) (Is (F κs)) (vals κs))
      → ((M : Type 1) (𝓤 : Ura M) (𝓛 : Logic 𝓤) → (κs : Lfts n) → Lawful 𝓛 (F κs)) → Param n
  lent : (j : ℕ) → Within n j → RattleType → Param n
  lends : (j : ℕ) → Within n j → RattleType → Param n
  gives : (j : ℕ) → Within n j → RattleType → Param n

module _ {n : ℕ} where
  abbrev pub number : Width → Param n
  number w = row (λ _. UInt w) (λ κs x f. refl) (λ _. uint_vals w) (λ _. uint_Tells w) (λ M 𝓤 𝓛 _. uint_Lawful 𝓛 w)

  abbrev pub slot : Param n → Slot n
  slot (row F same vals tells typed) = plain F
  slot (lent j ok R) = shr_slice_of (j ∷ []) ok (plain (λ _. R))
  slot (lends j ok R) = mut_slice_of (j ∷ []) ok (plain (λ _. R))
  slot (gives j ok R) = mut_slice_of (j ∷ []) ok (plain (λ _. R))

  abbrev pub slots : List (Param n) → List (Slot n)
  slots [] = []
  slots (p ∷ ps) = slot p ∷ slots ps

  -- what is had of each at exit
  abbrev pub stay : (p : Param n) → Stay (slot p) yes
  stay (row F same vals tells typed) = stay_none F yes
  stay (lent j ok R) = stay_none_slice (j ∷ []) ok (plain (λ _. R)) yes
  stay (lends j ok R) = stay_slice (j ∷ []) ok (plain (λ _. R))
  stay (gives j ok R) = gave_slice (j ∷ []) ok (plain (λ _. R))

  abbrev pub stays : (ps : List (Param n)) → Stays (slots ps) (all yes (slots ps))
  stays [] = tt
  stays (p ∷ ps) = (stay p, stays ps)

  -- its machine values
  module _ (κs : Lfts n) where
    abbrev pub spells : (ps : List (Param n)) → Spells (types_at (slots ps) κs)
    spells [] = tt
    spells (row F same vals tells typed ∷ ps) = (vals κs, spells ps)
    spells (lent j ok R ∷ ps) = (shr_slice_vals, spells ps)
    spells (lends j ok R ∷ ps) = (mut_slice_vals, spells ps)
    spells (gives j ok R ∷ ps) = (mut_slice_vals, spells ps)

    pub all_told : (ps : List (Param n)) → Tellss (types_at (slots ps) κs) (Ises (types_at (slots ps) κs)) (spells ps)
    all_told [] = tt
    all_told (row F same vals tells typed ∷ ps) = (tells κs, all_told ps)
    all_told (lent j ok R ∷ ps) = (shr_slice_Tells (named j) (lft_at n j ok κs) R, all_told ps)
    all_told (lends j ok R ∷ ps) = (mut_slice_Tells (named j) (lft_at n j ok κs) R, all_told ps)
    all_told (gives j ok R ∷ ps) = (mut_slice_Tells (named j) (lft_at n j ok κs) R, all_told ps)

  module _ {M : Type 1} {𝓤 : Ura M} (𝓛 : Logic 𝓤) where
    pub goes : (p : Param n) → Goes 𝓛 n (slot p) yes (stay p)
    goes (row F same vals tells typed) = Goes-none 𝓛 n F yes same
    goes (lent j ok R) = Goes-none_slice 𝓛 n (j ∷ []) ok (plain (λ _. R)) yes
    goes (lends j ok R) = Goes-slice 𝓛 n j ok (plain (λ _. R))
    goes (gives j ok R) = Goes-gave_slice 𝓛 n j ok (plain (λ _. R))

    pub all_go : (ps : List (Param n)) → AllGo 𝓛 n (slots ps) (all yes (slots ps)) (stays ps)
    all_go [] = tt
    all_go (p ∷ ps) = (goes p, all_go ps)

    pub all-lawful : (κs : Lfts n) (ps : List (Param n)) → Lawfuls 𝓛 (types_at (slots ps) κs)
    all-lawful κs [] = tt
    all-lawful κs (row F same vals tells typed ∷ ps) = (typed M 𝓤 𝓛 κs, all-lawful κs ps)
    all-lawful κs (lent j ok R ∷ ps) = (shr_slice_Lawful 𝓛 (named j) (lft_at n j ok κs) R, all-lawful κs ps)
    all-lawful κs (lends j ok R ∷ ps) = (mut_slice_Lawful 𝓛 (named j) (lft_at n j ok κs) R, all-lawful κs ps)
    all-lawful κs (gives j ok R ∷ ps) = (mut_slice_Lawful 𝓛 (named j) (lft_at n j ok κs) R, all-lawful κs ps)
