-- The locals of a function as a part of a walk's context: they are allocated and the arguments stored in one step, and freed in one step.
-- A context lists the locals from the last to the first, as the machine allocates them, each with its right to be freed (`fdies`).
-- Assumes `Logic`.
use mathlib.Core.Path.{◌≡◌, refl, ap, sym, subst}
use Prim.Native.Nat.{ℕ, zero, suc}
use mathlib.Core.List.{List, [], ◌∷◌, ◌++◌}
use seplogic.Ra.Ura.{Ura}
use base.Fraction.{full_share}
use lib.Dec.{T}
use mir.Syntax.{Ty, Local, local, value_local, Fn}
use mir.Val.{Val, WT, has_ty}
use base.Logic.{SProp, ent, sep, wand, via, id⊢, comm∗, assoc∗, assoc', mono_l, mono_r, wand_i, guard_i}
use base.Fml.{Fml, fat, froom, fdies}
use prog.Wp.{Env, Calls, Loops, release, pass, params, WpFn}
use types.Logic.{Logic, sem}
use types.Kit.{Item, ‵, mean, ⋆, push, pop, ++⊢, ⊢++, Goal, prop, runs, allocs, params', frees, at_ret, aim, Seq, Step, step, ◌$◌}
use types.Run.{enter, alloc1, alloc0}

-- what a local holds: nothing yet, or a value
pub data Content : Type 0 where
  empty : Content
  holds : Val → Content

abbrev pub cell : Ty → ℕ → Content → Fml
cell τ b empty = froom τ b 0
cell τ b (holds v) = fat full_share τ b 0 v

-- locals that the compiler keeps as values
abbrev pub values : List Ty → List Local
values [] = []
values (τ ∷ τs) = local τ value_local ∷ values τs

-- all of them hold a value
abbrev pub holding : List Val → List Content
holding [] = []
holding (v ∷ vs) = holds v ∷ holding vs

-- the first n of a list, and the rest
abbrev pub front : {X : Type 2} → ℕ → List X → List X
front zero Γ = []
front (suc n) [] = []
front (suc n) (i ∷ Γ) = i ∷ front n Γ

abbrev pub back : {X : Type 2} → ℕ → List X → List X
back zero Γ = Γ
back (suc n) [] = []
back (suc n) (i ∷ Γ) = back n Γ

front-back : {X : Type 2} (n : ℕ) (Γ : List X) → front n Γ ++ back n Γ ≡ Γ
front-back zero Γ = refl
front-back (suc n) [] = refl
front-back (suc n) (i ∷ Γ) = ap (λ Δ. i ∷ Δ) (front-back n Γ)

-- each value is of its local's type
abbrev pub Typed : List Local → List Val → Type 0
Typed ls [] = Unit {0}
Typed [] (v ∷ vs) = ⊥
Typed (local τ h ∷ ls) (v ∷ vs) = (T (has_ty τ v) × WT v) × Typed ls vs

-- the parameters are the locals after the first, which is the result
abbrev pub TypedParams : List Local → List Val → Type 0
TypedParams [] vs = ⊥
TypedParams (local τ h ∷ ls) vs = Typed ls vs

module _ {M : Type 1} {𝓤 : Ura M} (𝓛 : Logic 𝓤) where
  -- the locals of the environment in front of Γ; those past the end of the list of contents are empty
  open 𝓛 use {H}

  abbrev pub locals : Env 𝓤 H → List Content → List (Item 𝓤) → List (Item 𝓤)
  locals [] cs Γ = Γ
  locals (e ∷ E) [] Γ = locals E [] (‵ (froom e.0 e.1 0) ∷ ‵ (fdies e.0 e.1) ∷ Γ)
  locals (e ∷ E) (c ∷ cs) Γ = locals E cs (‵ (cell e.0 e.1 c) ∷ ‵ (fdies e.0 e.1) ∷ Γ)

  -- the environment of these locals, with the block of each
  abbrev pub blocks : List Local → (ℕ → ℕ) → Env 𝓤 H
  blocks [] l = []
  blocks (local τ h ∷ ls) l = (τ, l 0) ∷ blocks ls (λ i. l (suc i))

  -- what is behind the locals may be written apart from them
  apart : (E : Env 𝓤 H) (cs : List Content) (Γ Δ : List (Item 𝓤)) → locals E cs Γ ++ Δ ≡ locals E cs (Γ ++ Δ)
  apart [] cs Γ Δ = refl
  apart (e ∷ E) [] Γ Δ = apart E [] (‵ (froom e.0 e.1 0) ∷ ‵ (fdies e.0 e.1) ∷ Γ) Δ
  apart (e ∷ E) (c ∷ cs) Γ Δ = apart E cs (‵ (cell e.0 e.1 c) ∷ ‵ (fdies e.0 e.1) ∷ Γ) Δ

  pub swap : (P Q R : SProp 𝓤) → ent 𝓤 (sep 𝓤 P (sep 𝓤 Q R)) (sep 𝓤 Q (sep 𝓤 P R))
  swap P Q R = via 𝓤 (sep 𝓤 (sep 𝓤 P Q) R) (assoc' 𝓤 P Q R) (via 𝓤 (sep 𝓤 (sep 𝓤 Q P) R) (mono_l 𝓤 R (comm∗ 𝓤 P Q)) (assoc∗ 𝓤 Q P R))

  turned : (Δ Γ : List (Item 𝓤)) → ent 𝓤 (⋆ 𝓛 (Δ ++ Γ)) (⋆ 𝓛 (Γ ++ Δ))
  turned Δ Γ =
      via 𝓤 (sep 𝓤 (⋆ 𝓛 Δ) (⋆ 𝓛 Γ)) (⊢++ 𝓛 Δ Γ)
      (via 𝓤 (sep 𝓤 (⋆ 𝓛 Γ) (⋆ 𝓛 Δ)) (comm∗ 𝓤 (⋆ 𝓛 Δ) (⋆ 𝓛 Γ)) (++⊢ 𝓛 Γ Δ))

  -- ---- the locals freed
  release-out : (E : Env 𝓤 H) (X P : SProp 𝓤) → ent 𝓤 (release 𝓤 H E (sep 𝓤 X P)) (sep 𝓤 X (release 𝓤 H E P))
  release-out [] X P = id⊢ 𝓤 (sep 𝓤 X P)
  release-out (e ∷ E) X P =
      let Y : SProp 𝓤 = sep 𝓤 (H.room e.0 e.1 0) (H.dies e.0 e.1) in
      via 𝓤 (sep 𝓤 Y (sep 𝓤 X (release 𝓤 H E P))) (mono_r 𝓤 Y (release-out E X P)) (swap Y X (release 𝓤 H E P))

  module _ where
    room : (τ : Ty) (b : ℕ) (c : Content) → ent 𝓤 (sem 𝓛 (cell τ b c)) (H.room τ b 0)
    room τ b empty = id⊢ 𝓤 (H.room τ b 0)
    room τ b (holds v) = 𝓛.laws.at_room τ b 0 v

    one-freed : (τ : Ty) (b : ℕ) (c : Content) (Γ : List (Item 𝓤)) (P : SProp 𝓤) → ent 𝓤 (⋆ 𝓛 Γ) P
        → ent 𝓤 (⋆ 𝓛 (‵ (cell τ b c) ∷ ‵ (fdies τ b) ∷ Γ)) (sep 𝓤 (sep 𝓤 (H.room τ b 0) (H.dies τ b)) P)
    one-freed τ b c Γ P h =
        via 𝓤 (sep 𝓤 (sem 𝓛 (cell τ b c)) (sep 𝓤 (H.dies τ b) P))
        (mono_r 𝓤 (sem 𝓛 (cell τ b c)) (via 𝓤 (sep 𝓤 (H.dies τ b) (⋆ 𝓛 Γ)) (pop 𝓛 (‵ (fdies τ b)) Γ) (mono_r 𝓤 (H.dies τ b) h)))
        (via 𝓤 (sep 𝓤 (H.room τ b 0) (sep 𝓤 (H.dies τ b) P)) (mono_l 𝓤 (sep 𝓤 (H.dies τ b) P) (room τ b c)) (assoc' 𝓤 (H.room τ b 0) (H.dies τ b) P))

    behind : (τ : Ty) (b : ℕ) (c c' : Content) (Γ Γ' : List (Item 𝓤))
        → ent 𝓤 (sem 𝓛 (cell τ b c)) (sem 𝓛 (cell τ b c')) → ent 𝓤 (⋆ 𝓛 Γ) (⋆ 𝓛 Γ')
        → ent 𝓤 (⋆ 𝓛 (‵ (cell τ b c) ∷ ‵ (fdies τ b) ∷ Γ)) (⋆ 𝓛 (‵ (cell τ b c') ∷ ‵ (fdies τ b) ∷ Γ'))
    behind τ b c c' Γ Γ' g h =
        via 𝓤 (sep 𝓤 (sem 𝓛 (cell τ b c')) (⋆ 𝓛 (‵ (fdies τ b) ∷ Γ))) (mono_l 𝓤 (⋆ 𝓛 (‵ (fdies τ b) ∷ Γ)) g)
        (mono_r 𝓤 (sem 𝓛 (cell τ b c'))
        (via 𝓤 (sep 𝓤 (H.dies τ b) (⋆ 𝓛 Γ)) (pop 𝓛 (‵ (fdies τ b)) Γ)
        (via 𝓤 (sep 𝓤 (H.dies τ b) (⋆ 𝓛 Γ')) (mono_r 𝓤 (H.dies τ b) h) (push 𝓛 (‵ (fdies τ b)) Γ'))))

    all-freed : (E : Env 𝓤 H) (cs : List Content) (Γ : List (Item 𝓤)) (P : SProp 𝓤)
        → ent 𝓤 (⋆ 𝓛 Γ) P → ent 𝓤 (⋆ 𝓛 (locals E cs Γ)) (release 𝓤 H E P)
    all-freed [] cs Γ P h = h
    all-freed (e ∷ E) [] Γ P h =
        let X : SProp 𝓤 = sep 𝓤 (H.room e.0 e.1 0) (H.dies e.0 e.1) in
        via 𝓤 (release 𝓤 H E (sep 𝓤 X P)) (all-freed E [] _ (sep 𝓤 X P) (one-freed e.0 e.1 empty Γ P h)) (release-out E X P)
    all-freed (e ∷ E) (c ∷ cs) Γ P h =
        let X : SProp 𝓤 = sep 𝓤 (H.room e.0 e.1 0) (H.dies e.0 e.1) in
        via 𝓤 (release 𝓤 H E (sep 𝓤 X P)) (all-freed E cs _ (sep 𝓤 X P) (one-freed e.0 e.1 c Γ P h)) (release-out E X P)

    -- ---- some of them emptied
    emptied : (E : Env 𝓤 H) (kept temps : List Content) (Γ Γ' : List (Item 𝓤)) → ent 𝓤 (⋆ 𝓛 Γ) (⋆ 𝓛 Γ')
        → ent 𝓤 (⋆ 𝓛 (locals E (kept ++ temps) Γ)) (⋆ 𝓛 (locals E kept Γ'))
    emptied [] kept temps Γ Γ' h = h
    emptied (e ∷ E) (c ∷ kept) temps Γ Γ' h = emptied E kept temps _ _ (behind e.0 e.1 c c Γ Γ' (id⊢ 𝓤 (sem 𝓛 (cell e.0 e.1 c))) h)
    emptied (e ∷ E) [] [] Γ Γ' h = emptied E [] [] _ _ (behind e.0 e.1 empty empty Γ Γ' (id⊢ 𝓤 (H.room e.0 e.1 0)) h)
    emptied (e ∷ E) [] (c ∷ temps) Γ Γ' h = emptied E [] temps _ _ (behind e.0 e.1 c empty Γ Γ' (room e.0 e.1 c) h)

    -- ---- the arguments stored
    out : (E : Env 𝓤 H) (cs : List Content) (i : Item 𝓤) (Γ : List (Item 𝓤))
        → ent 𝓤 (⋆ 𝓛 (locals E cs (i ∷ Γ))) (sep 𝓤 (mean 𝓛 i) (⋆ 𝓛 (locals E cs Γ)))
    out E cs i Γ =
        subst (λ (Δ : List (Item 𝓤)). ent 𝓤 (⋆ 𝓛 Δ) (sep 𝓤 (mean 𝓛 i) (⋆ 𝓛 (locals E cs Γ)))) (apart E cs [] (i ∷ Γ))
        (via 𝓤 (⋆ 𝓛 (i ∷ Γ ++ locals E cs [])) (turned (locals E cs []) (i ∷ Γ))
        (via 𝓤 (sep 𝓤 (mean 𝓛 i) (⋆ 𝓛 (Γ ++ locals E cs []))) (pop 𝓛 i (Γ ++ locals E cs []))
        (mono_r 𝓤 (mean 𝓛 i) (subst (λ (Δ : List (Item 𝓤)). ent 𝓤 (⋆ 𝓛 (Γ ++ locals E cs [])) (⋆ 𝓛 Δ))
        (apart E cs [] Γ) (turned Γ (locals E cs []))))))

    back_in : (E : Env 𝓤 H) (cs : List Content) (i : Item 𝓤) (Γ : List (Item 𝓤))
        → ent 𝓤 (sep 𝓤 (mean 𝓛 i) (⋆ 𝓛 (locals E cs Γ))) (⋆ 𝓛 (locals E cs (i ∷ Γ)))
    back_in E cs i Γ =
        subst (λ (Δ : List (Item 𝓤)). ent 𝓤 (sep 𝓤 (mean 𝓛 i) (⋆ 𝓛 (locals E cs Γ))) (⋆ 𝓛 Δ)) (apart E cs [] (i ∷ Γ))
        (via 𝓤 (sep 𝓤 (mean 𝓛 i) (⋆ 𝓛 (Γ ++ locals E cs [])))
        (mono_r 𝓤 (mean 𝓛 i) (subst (λ (Δ : List (Item 𝓤)). ent 𝓤 (⋆ 𝓛 Δ) (⋆ 𝓛 (Γ ++ locals E cs [])))
        (apart E cs [] Γ) (turned (locals E cs []) Γ)))
        (via 𝓤 (⋆ 𝓛 (i ∷ Γ ++ locals E cs [])) (push 𝓛 i (Γ ++ locals E cs [])) (turned (i ∷ Γ) (locals E cs []))))

    all-stored : (ls : List Local) (l : ℕ → ℕ) (vs : List Val) (Γ : List (Item 𝓤)) (P : SProp 𝓤)
        → Typed ls vs → ent 𝓤 (⋆ 𝓛 (locals (blocks ls l) (holding vs) Γ)) P
        → ent 𝓤 (⋆ 𝓛 (locals (blocks ls l) [] Γ)) (pass 𝓤 H (blocks ls l) vs P)
    all-stored [] l [] Γ P ts h = h
    all-stored (local τ x ∷ ls) l [] Γ P ts h = h
    all-stored [] l (v ∷ vs) Γ P ts h = absurd ts
    all-stored (local τ x ∷ ls) l (v ∷ vs) Γ P ts h =
        let E : Env 𝓤 H = blocks ls (λ i. l (suc i)) in
        let at : SProp 𝓤 = H.at full_share τ (l 0) 0 v in
        let rest : SProp 𝓤 = ⋆ 𝓛 (locals E [] (‵ (fdies τ (l 0)) ∷ Γ)) in
        via 𝓤 (sep 𝓤 (H.room τ (l 0) 0) (wand 𝓤 at (pass 𝓤 H E vs P)))
        (via 𝓤 (sep 𝓤 (H.room τ (l 0) 0) rest) (out E [] (‵ (froom τ (l 0) 0)) (‵ (fdies τ (l 0)) ∷ Γ))
        (mono_r 𝓤 (H.room τ (l 0) 0) (wand_i 𝓤 rest at (pass 𝓤 H E vs P)
        (via 𝓤 (sep 𝓤 at rest) (comm∗ 𝓤 rest at)
        (via 𝓤 (⋆ 𝓛 (locals E [] (‵ (fat full_share τ (l 0) 0 v) ∷ ‵ (fdies τ (l 0)) ∷ Γ)))
        (back_in E [] (‵ (fat full_share τ (l 0) 0 v)) (‵ (fdies τ (l 0)) ∷ Γ))
        (all-stored ls (λ i. l (suc i)) vs _ P ts.1 h))))))
        (guard_i 𝓤 (T (has_ty τ v) × WT v) (sep 𝓤 (H.room τ (l 0) 0) (wand 𝓤 at (pass 𝓤 H E vs P))) ts.0)

    params-stored : (ls : List Local) (l : ℕ → ℕ) (vs : List Val) (Γ : List (Item 𝓤)) (P : SProp 𝓤) → TypedParams ls vs
        → ent 𝓤 (⋆ 𝓛 (locals (blocks ls l) (empty ∷ holding vs) Γ)) P → ent 𝓤 (⋆ 𝓛 (locals (blocks ls l) [] Γ)) (params 𝓤 H (blocks ls l) vs P)
    params-stored [] l vs Γ P ts h = absurd ts
    params-stored (local τ x ∷ ls) l vs Γ P ts h = all-stored ls (λ i. l (suc i)) vs _ P ts h

-- the first block, and then those of l
abbrev and-then-those : ℕ → (ℕ → ℕ) → ℕ → ℕ
and-then-those b l zero = b
and-then-those b l (suc i) = l i

module _ {M : Type 1} {𝓤 : Ura M} {𝓛 : Logic 𝓤} {K : Type 0} where
  open 𝓛 use {H}

  all-allocated : K → (ls : List Local) (Γ : List (Item 𝓤)) (Kt : Env 𝓤 H → Goal 𝓤 H)
      → ((l : ℕ → ℕ) → Seq K 𝓛 (locals 𝓛 (blocks 𝓛 ls l) [] Γ) (Kt (blocks 𝓛 ls l))) → Seq K 𝓛 Γ (allocs ls Kt)
  all-allocated t [] Γ Kt k = alloc0 t $ k (λ _. 0)
  all-allocated t (local τ h ∷ ls) Γ Kt k =
      alloc1 t (λ b. all-allocated t ls (‵ (froom τ b 0) ∷ ‵ (fdies τ b) ∷ Γ) (λ E. Kt ((τ, b) ∷ E)) (λ l. k (and-then-those b l)))

  module _ {Γ : List (Item 𝓤)} where
    -- ---- a function is entered: its locals are allocated, and its arguments stored. Its result is the first local, and is empty
    pub enters : K → (C : Calls 𝓤 H) (Λ : Loops 𝓤 H) (f : Fn) (vs : List Val) (Kf : Val → SProp 𝓤) → TypedParams f.locals vs
        → ((l : ℕ → ℕ) → Seq K 𝓛 (locals 𝓛 (blocks 𝓛 f.locals l) (empty ∷ holding vs) Γ)
        (runs C Λ (blocks 𝓛 f.locals l) f.body (at_ret (blocks 𝓛 f.locals l) Kf)))
        → Seq K 𝓛 Γ (prop (WpFn 𝓤 H C Λ f vs Kf))
    enters t C Λ f vs Kf typed k =
        enter t C Λ f vs Kf $ all-allocated t f.locals Γ (λ E. params' E vs (runs C Λ E f.body (at_ret E Kf)))
        (λ l. record { prf = params-stored 𝓛 f.locals l vs Γ _ typed (k l).prf })

    -- ---- a function returns: its locals are freed, whatever they hold. They are all of the context but its first n entries
    pub leaves : K → (n : ℕ) (cs : List Content) {E : Env 𝓤 H} {g : Goal 𝓤 H} → back n Γ ≡ locals 𝓛 E cs [] → Step K 𝓛 (front n Γ) g Γ (frees E g)
    leaves t n cs {E} {g} e = step (λ s. record {
      prf = via 𝓤 (⋆ 𝓛 (locals 𝓛 E cs (front n Γ)))
          (subst (λ (Δ : List (Item 𝓤)). ent 𝓤 (⋆ 𝓛 Δ) (⋆ 𝓛 (locals 𝓛 E cs (front n Γ)))) (front-back n Γ)
          (subst (λ (Δ : List (Item 𝓤)). ent 𝓤 (⋆ 𝓛 (front n Γ ++ Δ)) (⋆ 𝓛 (locals 𝓛 E cs (front n Γ)))) (sym e)
          (subst (λ (Δ : List (Item 𝓤)). ent 𝓤 (⋆ 𝓛 (front n Γ ++ locals 𝓛 E cs [])) (⋆ 𝓛 Δ)) (apart 𝓛 E cs [] (front n Γ))
          (turned 𝓛 (front n Γ) (locals 𝓛 E cs [])))))
          (all-freed 𝓛 E cs (front n Γ) (aim 𝓤 H g) s.prf);
    })

    -- the temporaries are emptied: the locals that stand after those of the list `kept`
    pub empties : K → (n : ℕ) (E : Env 𝓤 H) (kept temps : List Content) {G : Goal 𝓤 H} → back n Γ ≡ locals 𝓛 E (kept ++ temps) []
        → Step K 𝓛 (front n Γ ++ locals 𝓛 E kept []) G Γ G
    empties t n E kept temps {G} e = step (λ s. record {
      prf = subst (λ (Δ : List (Item 𝓤)). ent 𝓤 (⋆ 𝓛 Δ) (aim 𝓤 H G)) (front-back n Γ)
          (subst (λ (Δ : List (Item 𝓤)). ent 𝓤 (⋆ 𝓛 (front n Γ ++ Δ)) (aim 𝓤 H G)) (sym e)
          (via 𝓤 (sep 𝓤 (⋆ 𝓛 (front n Γ)) (⋆ 𝓛 (locals 𝓛 E (kept ++ temps) [])))
          (⊢++ 𝓛 (front n Γ) (locals 𝓛 E (kept ++ temps) []))
          (via 𝓤 (sep 𝓤 (⋆ 𝓛 (front n Γ)) (⋆ 𝓛 (locals 𝓛 E kept [])))
          (mono_r 𝓤 (⋆ 𝓛 (front n Γ)) (emptied 𝓛 E kept temps [] [] (id⊢ 𝓤 (⋆ 𝓛 []))))
          (via 𝓤 (⋆ 𝓛 (front n Γ ++ locals 𝓛 E kept [])) (++⊢ 𝓛 (front n Γ) (locals 𝓛 E kept [])) s.prf))));
    })
