-- From a walk of a function's MIR, at its parameters' machine values, to the statement that the function meets its contract. Its signature is given by its
-- lifetimes, their bounds, its parameters by their kind (`Params.antt`) and its result. Assumes `Logic`.
use Prim.Native.Nat.{ℕ}
use mathlib.Core.List.{List}
use seplogic.Ra.Ura.{Ura}
use mir.Syntax.{Fn}
use base.Logic.{ent, sep}
use prog.Wp.{WpFn, Tables}
use types.Logic.{Logic}
use sound.WpLaws.{WpFn-mono}
use contract.Lifetimes.{Lfts, Shares, Outlives, AllOutlive}
use denote.RattleType.{flat}
use denote.Laws.{Are, Ises, valss}
use denote.Signature.{Slot, types_at}
use denote.Triple.Entry.{Args, on_entry}
use denote.Triple.End.{all}
use denote.Triple.Spec.{Meets}
use denote.Triple.Clauses.{Clauses, Ended, closing}
use denote.Triple.Walked.{walk_of, walked, walk_Meets}
use denote.Exit.{yes}
use Rattle.walk.proofs.Params.{Param, slots, stays, spells, all_told, all_go}

module _ {M : Type 1} {𝓤 : Ura M} (𝓛 : Logic 𝓤) (n : ℕ) (bounds : List (Outlives n)) (ps : List (Param n)) (result : Slot n) where
  open 𝓛 use {H}

  abbrev T : Ended
  T = record { signature = record { lifetimes = n; outlives = bounds; params = slots ps; result = result }; kept = all yes (slots ps) }

  pub meets-by : (c : Clauses 𝓤 T) (𝓣 : Tables 𝓤 H) (f : Fn)
      → ((κs : Lfts n) (qs : Shares n) (outlive : AllOutlive n bounds κs) (a : Args T.signature κs) (g : (c κs a).ghost)
      → Are (types_at (slots ps) κs) (Ises (types_at (slots ps) κs)) a (valss (types_at (slots ps) κs) (spells κs ps) a)
      → ent 𝓤 (sep 𝓤 (on_entry 𝓛 T.signature κs qs a (valss (types_at (slots ps) κs) (spells κs ps) a)) ((c κs a).requires g))
      (WpFn 𝓤 H 𝓣.C 𝓣.Λ f (flat (types_at (slots ps) κs) (valss (types_at (slots ps) κs) (spells κs ps) a))
      ((walk_of 𝓛 T (stays ps) c).post ((κs, qs, outlive, a, valss (types_at (slots ps) κs) (spells κs ps) a), g))))
      → Meets 𝓛 T.signature (WpFn 𝓤 H 𝓣.C 𝓣.Λ f) (closing 𝓛 T c)
  meets-by c 𝓣 f k =
      walk_Meets 𝓛 T (stays ps) (all_go 𝓛 ps) c (WpFn 𝓤 H 𝓣.C 𝓣.Λ f) (WpFn-mono 𝓤 H 𝓛.laws 𝓣 f)
      (walked 𝓛 T (stays ps) c (WpFn 𝓤 H 𝓣.C 𝓣.Λ f) (λ κs. spells κs ps) (λ κs. all_told κs ps) k)
