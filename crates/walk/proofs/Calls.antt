-- A call of a function whose contract is met. The tokens of its lifetimes and what its parameters own are what it is passed; it gives back the tokens, its
-- result, whose machine value is the one that its type tells, the last values of its parameters, and what it ensures.
-- Assumes `Logic`, and that the table of calls is monotone under a frame.
--     tokens           the tokens of a signature's lifetimes, in its order
--     Shared           parameters whose types are Copy, as slices that are lent, with what they own (`owned`)
--     passes           one of them is put before what the parameters after it own, and is kept as well
--     parted           they are parted from what the parameters after them own
--     field-owned      of what a struct owns, what its field k owns
--     calls-met        the call
use mathlib.Core.Path.{◌≡◌, refl, sym, ap, subst}
use Prim.Native.Nat.{ℕ, zero, suc}
use mathlib.Core.List.{List, [], ◌∷◌}
use seplogic.Ra.Ura.{Ura}
use mir.Syntax.{Callee, Place, Opd as Operand, Body, seq, call}
use mir.Val.{Val, vstruct}
use base.Logic.{SProp, ent, sep, emp, via, id⊢, comm∗, assoc∗, assoc', mono_l, mono_r, emp∗}
use base.Fml.{Fml, ftrue, fsep, flft}
use prog.Wp.{Env, Calls, Loops}
use types.Logic.{Logic, sem}
use sound.WpLaws.{FmC}
use contract.Lifetimes.{Lfts, Shares, toks}
use types.Kit.{Item, ‵, raw, given, ◌⊛◌, some, later, mean, Post, Goal, runs, lands, Seq, Step, step, ◌$◌, ◌∵◌, !, qed}
use types.Kit.{move, keep, use1, use2, split, learn, fjoin, await, pick, recast, done}
use types.Run.{Opds}
use denote.RattleType.{RattleType, Denots, Valss, owns}
use denote.Laws.{Is, Tells, Copy, shows}
use denote.Signature.{type_at, types_at}
use denote.Struct.Declared.{Declared, shape}
use denote.Struct.Laws.{Lawss}
use denote.Struct.Struct.{Struct}
use denote.Struct.Values.{Values, intos}
use denote.Struct.At.{get_at, spelled}
use denote.Struct.Rest.{all_own, field_own, rest, own_out, own_open}
use denote.Steps.{only, peeks}
use denote.Triple.Statement.{Triple}
use denote.Triple.Entry.{Res}
use denote.Triple.Spec.{triple_of}
use denote.Triple.Clauses.{Ended, Clauses, Lasts, at_exit, lasts, closing}
use denote.Triple.Call.{calls_at}
use Rattle.walk.proofs.Locals.{swap}

-- what parameter i owns
abbrev pub own_at : (Rs : List RattleType) → Denots Rs → Valss Rs → ℕ → Fml
own_at [] a vss i = ftrue
own_at (R ∷ Rs) a vss zero = R.own_val a.0 vss.0
own_at (R ∷ Rs) a vss (suc i) = own_at Rs a.1 vss.1 i

-- what they own, before P
abbrev pub before : (Rs : List RattleType) → Denots Rs → Valss Rs → Fml → Fml
before [] a vss P = P
before (R ∷ Rs) a vss P = fsep (R.own_val a.0 vss.0) (before Rs a.1 vss.1 P)

module _ {M : Type 1} {𝓤 : Ura M} (𝓛 : Logic 𝓤) where
  open 𝓛 use {A}

  abbrev pub tokens : (n : ℕ) → Lfts n → Shares n → Item 𝓤
  tokens zero κs qs = ‵ ftrue
  tokens (suc n) κs qs = ‵ (flft κs.0 qs.0) ⊛ tokens n κs.1 qs.1

  tokens-are : (n : ℕ) (κs : Lfts n) (qs : Shares n) → mean 𝓛 (tokens n κs qs) ≡ toks 𝓛 n κs qs
  tokens-are zero κs qs = refl
  tokens-are (suc n) κs qs = ap (sep 𝓤 (A.lft κs.0 qs.0)) (tokens-are n κs.1 qs.1)

  abbrev pub Copies : List RattleType → Type 1
  Copies [] = Unit {1}
  Copies (R ∷ Rs) = Copy 𝓛 R × Copies Rs

  pub record Shared : Type 2 where
    pub types : List RattleType
    pub copy : Copies types
    pub given : Denots types
    pub values : Valss types

  abbrev pub owned : Shared → Fml
  owned s = owns s.types s.given s.values

  copied : (Rs : List RattleType) → Copies Rs → (a : Denots Rs) (vss : Valss Rs) (i : ℕ)
      → ent 𝓤 (sem 𝓛 (owns Rs a vss)) (sep 𝓤 (sem 𝓛 (own_at Rs a vss i)) (sem 𝓛 (owns Rs a vss)))
  copied [] cs a vss i = emp∗ 𝓤 (emp 𝓤)
  copied (R ∷ Rs) cs a vss zero =
      let P : SProp 𝓤 = sem 𝓛 (R.own_val a.0 vss.0) in
      let Q : SProp 𝓤 = sem 𝓛 (owns Rs a.1 vss.1) in
      via 𝓤 (sep 𝓤 (sep 𝓤 P P) Q) (mono_l 𝓤 Q (cs.0.twice a.0 vss.0)) (assoc∗ 𝓤 P P Q)
  copied (R ∷ Rs) cs a vss (suc i) =
      let P : SProp 𝓤 = sem 𝓛 (R.own_val a.0 vss.0) in
      let Q : SProp 𝓤 = sem 𝓛 (owns Rs a.1 vss.1) in
      let O : SProp 𝓤 = sem 𝓛 (own_at Rs a.1 vss.1 i) in
      via 𝓤 (sep 𝓤 P (sep 𝓤 O Q)) (mono_r 𝓤 P (copied Rs cs.1 a.1 vss.1 i)) (swap 𝓛 P O Q)

  apart : (Rs : List RattleType) (a : Denots Rs) (vss : Valss Rs) (P : Fml)
      → ent 𝓤 (sem 𝓛 (before Rs a vss P)) (sep 𝓤 (sem 𝓛 (owns Rs a vss)) (sem 𝓛 P))
  apart [] a vss P = emp∗ 𝓤 (sem 𝓛 P)
  apart (R ∷ Rs) a vss P =
      let O : SProp 𝓤 = sem 𝓛 (R.own_val a.0 vss.0) in
      via 𝓤 (sep 𝓤 O (sep 𝓤 (sem 𝓛 (owns Rs a.1 vss.1)) (sem 𝓛 P))) (mono_r 𝓤 O (apart Rs a.1 vss.1 P))
      (assoc' 𝓤 O (sem 𝓛 (owns Rs a.1 vss.1)) (sem 𝓛 P))

  pub field-owned : (N : Declared) (L : Lawss N.parts) (k : ℕ) (v : Values N.parts) (w : Val)
      → ent 𝓤 (sem 𝓛 ((Struct (shape N)).own_val (intos N.parts v) (w ∷ []))) (sem 𝓛 (field_own N.parts L k (get_at N.parts k v)))
  field-owned N L k v w =
      qed 𝓛 (‵ ((Struct (shape N)).own_val (intos N.parts v) (w ∷ [])) ∷ []) ∵
      use1 𝓛 (given (w ∷ [] ≡ vstruct (spelled N.parts L v) ∷ []) (‵ (all_own N.parts L v))) (own_open 𝓛 N L v w) $ learn ! (λ e.
      use1 𝓛 (‵ (field_own N.parts L k (get_at N.parts k v)) ⊛ ‵ (rest N.parts L k v)) (own_out 𝓛 N.parts L k v) $ split ! $ keep ! (0 ∷ []) $ done !)

module _ {M : Type 1} {𝓤 : Ura M} {𝓛 : Logic 𝓤} {K : Type 0} {Γ : List (Item 𝓤)} where
  open 𝓛 use {H}

  module _ {G : Goal 𝓤 H} where
    pub passes : K → (s : Shared 𝓛) (i : ℕ) {P : Fml}
        → Step K 𝓛 (‵ (fsep (own_at s.types s.given s.values i) P) ∷ ‵ (owned 𝓛 s) ∷ Γ) G (‵ P ∷ ‵ (owned 𝓛 s) ∷ Γ) G
    passes t s i = step (λ x.
        move t (1 ∷ []) $ use1 𝓛 (‵ (own_at s.types s.given s.values i) ⊛ ‵ (owned 𝓛 s)) (copied 𝓛 s.types s.copy s.given s.values i) $
        split t $ move t (0 ∷ 2 ∷ []) $ fjoin t $ x)

    pub parted : K → (s : Shared 𝓛) {P : Fml} → Step K 𝓛 (‵ (owned 𝓛 s) ∷ ‵ P ∷ Γ) G (‵ (before s.types s.given s.values P) ∷ Γ) G
    parted t s {P} = step (λ x. use1 𝓛 (‵ (owned 𝓛 s) ⊛ ‵ P) (apart 𝓛 s.types s.given s.values P) $ split t $ x)

  -- the context after the call: what it ensures, the last values, the result, the tokens
  pub calls-met : {E : Env 𝓤 H} {C : Calls 𝓤 H} {f : Callee} {xs : List Operand} {Λ : Loops 𝓤 H} {q : Post 𝓤 H} {d : Place} {rest : Body}
      → K → FmC 𝓤 H 𝓛.laws C
      → (T : Ended) (c : Clauses 𝓤 T) → Triple 𝓤 (C f) (triple_of 𝓛 T.signature (closing 𝓛 T c))
      → (y : (triple_of 𝓛 T.signature (closing 𝓛 T c)).Ghost) → ent 𝓤 (emp 𝓤) ((c y.0.0 y.0.3).requires y.1)
      → Opds K 𝓛 (raw ((triple_of 𝓛 T.signature (closing 𝓛 T c)).pre y) ∷ Γ) E xs ((triple_of 𝓛 T.signature (closing 𝓛 T c)).args y)
      → (val : Res T.signature y.0.0 → Val) → Tells (type_at T.signature.result y.0.0) (Is (type_at T.signature.result y.0.0)) (λ r. val r ∷ [])
      → ((r : Res T.signature y.0.0) → Is (type_at T.signature.result y.0.0) r (val r ∷ []) → (ws : Lasts T y.0.0 y.0.3)
      → Seq K 𝓛 (raw ((c y.0.0 y.0.3).ensures y.1 r (at_exit T y.0.0 y.0.3 ws)) ∷ ‵ (lasts T y.0.0 y.0.3 ws)
      ∷ ‵ ((type_at T.signature.result y.0.0).own_val r (val r ∷ []))
      ∷ tokens 𝓛 T.signature.lifetimes y.0.0 y.0.1 ∷ Γ) (lands C Λ E d (val r) rest q))
      → Seq K 𝓛 (tokens 𝓛 T.signature.lifetimes y.0.0 y.0.1 ∷ ‵ (owns (types_at T.signature.params y.0.0) y.0.3 y.0.4) ∷ Γ)
      (runs C Λ E (seq (call f xs d) rest) q)
  calls-met {E} {C} {f} {xs} {Λ} {q} {d} {rest} t fm T c met y asked os val tells k =
      let n : ℕ = T.signature.lifetimes in
      let Alive : Item 𝓤 = raw (toks 𝓛 n y.0.0 y.0.1) in
      let Tokens : Item 𝓤 = tokens 𝓛 n y.0.0 y.0.1 in
      let R : RattleType = type_at T.signature.result y.0.0 in
      let Own : Fml = owns (types_at T.signature.params y.0.0) y.0.3 y.0.4 in
      let Says : R.Denot → Lasts T y.0.0 y.0.3 → Item 𝓤 = λ r ws. raw ((c y.0.0 y.0.3).ensures y.1 r (at_exit T y.0.0 y.0.3 ws)) in
      recast 𝓛 Alive (tokens-are 𝓛 n y.0.0 y.0.1) $
      use2 𝓛 (raw ((triple_of 𝓛 T.signature (closing 𝓛 T c)).pre y))
      (via 𝓤 _ (emp∗ 𝓤 (mean 𝓛 (Alive ⊛ ‵ Own)))
      (via 𝓤 _ (comm∗ 𝓤 (emp 𝓤) (mean 𝓛 (Alive ⊛ ‵ Own))) (mono_r 𝓤 (mean 𝓛 (Alive ⊛ ‵ Own)) asked))) $
      calls_at t fm (triple_of 𝓛 T.signature (closing 𝓛 T c)) met y os (λ u.
      use1 𝓛 (later (some (λ (r : R.Denot). (Alive ⊛ ‵ (R.own_val r (u ∷ [])))
      ⊛ some (λ (ws : Lasts T y.0.0 y.0.3). ‵ (lasts T y.0.0 y.0.3 ws) ⊛ Says r ws)))) (id⊢ 𝓤 _) $
      await t tt $ pick t (λ r. split t $ split t $ recast 𝓛 Tokens (sym (tokens-are 𝓛 n y.0.0 y.0.1)) $
      move t (2 ∷ []) $ pick t (λ ws. split t $ move t (3 ∷ []) $
      peeks t R (Is R) (shows 𝓛 R) r (u ∷ []) (λ is.
      subst (λ (w : Val). Is R r (w ∷ [])
      → Seq K 𝓛 (‵ (R.own_val r (w ∷ [])) ∷ ‵ (lasts T y.0.0 y.0.3 ws) ∷ Says r ws ∷ Tokens ∷ Γ) (lands C Λ E d w rest q))
      (sym (ap only (tells r (u ∷ []) is))) (λ is'. move t (2 ∷ 1 ∷ []) $ k r is' ws) is))))
