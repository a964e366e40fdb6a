-- Statements over whole locals. Where n entries of the context stand before the locals (`Locals.antt`), the place of local i is counted here.
--     arg, field, inner    a local, or a part of one, is read
--     pointed, puts        what lies behind a local's pointer is read, or overwritten
--     sets, resets         a local that is empty is given a value, or one that holds a value another
--     gets                 the result of a call goes to a local that is empty
--     ends                 the function returns
-- And what a number owns. Assumes `Logic`.
use mathlib.Core.Path.{◌≡◌, refl}
use Prim.Native.Nat.{ℕ, zero, suc, ◌+◌, ◌<◌, ◌^◌}
use mathlib.Core.Option.{some}
use mathlib.Core.List.{List, [], ◌∷◌}
use seplogic.Ra.Ura.{Ura}
use base.Fraction.{full_share}
use lib.Dec.{T}
use lib.ListN.{length}
use mir.Syntax.{Width, Ty, deref, field as field_step, place, copy, Rv as RValue, Body, seq, assign, return}
use mir.Val.{Val, vint, vptr, WT, has_ty, bits}
use base.Logic.{SProp, sep, emp, via, mono_r, snd∗, emp∗}
use base.Fml.{Share, Fml, ftrue, fsep, fat, froom}
use prog.Memory.{field_of}
use prog.Wp.{Env, Calls, Loops, spot_of, next}
use types.Logic.{Logic}
use types.Kit.{Item, ‵, mean, ⋆, nth, del, put, pull, fill, push, pop, Post, post, at_ret, Goal, prop, runs, lands, Step, step, ◌$◌, fjoin}
use types.Part.{Part, look_in}
use types.Run.{Reads, Writes, Opd, Rv, look, init, store, stop, hop, fld, from, load, assigns, assigns_last, land, returns}
use denote.Laws.{Is}
use denote.Plain.{UInt, uint_Makes}
use denote.Slice.{slice_val}
use denote.Steps.{owned}
use Rattle.walk.proofs.Locals.{Content, front, back, locals, leaves}

-- a number and a slice that fit are well typed
pub number-typed : {w : Width} {n : ℕ} → n < 2 ^ bits w → WT (vint w n)
number-typed h = record { fits = h }

pub slice-typed : (p : ℕ × ℕ) {n : ℕ} → n < 2 ^ 64 → WT (slice_val p n)
slice-typed p h = (tt, (record { fits = h }, tt))

-- how many locals stand after local i
abbrev after : {X : Type 0} → List X → ℕ → ℕ
after [] i = 0
after (e ∷ E) zero = length E
after (e ∷ E) (suc i) = after E i

module _ {M : Type 1} {𝓤 : Ura M} (𝓛 : Logic 𝓤) where
  -- the place of local i, with n entries before the locals
  open 𝓛 use {H}

  abbrev pub spot : Env 𝓤 H → ℕ → ℕ → ℕ
  spot E n i = n + (after E i + after E i)

  -- local i at the value v, and empty
  abbrev pub Holds : Env 𝓤 H → ℕ → Val → Item 𝓤
  Holds E i v = ‵ (fat full_share (spot_of 𝓤 H E i).0 (spot_of 𝓤 H E i).1 0 v)

  abbrev pub Empty : Env 𝓤 H → ℕ → Item 𝓤
  Empty E i = ‵ (froom (spot_of 𝓤 H E i).0 (spot_of 𝓤 H E i).1 0)

module _ {M : Type 1} {𝓤 : Ura M} {𝓛 : Logic 𝓤} {K : Type 0} {Γ : List (Item 𝓤)} where
  open 𝓛 use {H}

  module _ {E : Env 𝓤 H} where
    pub arg : K → (n : ℕ) {i : ℕ} {v : Val} → nth 𝓛 (spot 𝓛 E n i) Γ ≡ Holds 𝓛 E i v → Opd K 𝓛 Γ E (copy (place i [])) v
    arg t n {i} e = load t (from t (stop t)) (look t (spot 𝓛 E n i) e)

    pub field : K → (n : ℕ) {i k : ℕ} {q : Share} {τ : Ty} {d : ℕ} {v : Val} {back : Val → Item 𝓤} → field_of (spot_of 𝓤 H E i).0 k ≡ some (τ, d)
        → Part K 𝓛 (nth 𝓛 (spot 𝓛 E n i) Γ) q τ (spot_of 𝓤 H E i).1 (0 + d) v back → Opd K 𝓛 Γ E (copy (place i (field_step k ∷ []))) v
    field t n {i} e p = load t (from t (fld t e (stop t))) (look_in t (spot 𝓛 E n i) p)

    -- a field of a field
    pub inner : K → (n : ℕ) {i j k : ℕ} {q : Share} {σ τ : Ty} {c d : ℕ} {v : Val} {back : Val → Item 𝓤}
        → field_of (spot_of 𝓤 H E i).0 j ≡ some (σ, c) → field_of σ k ≡ some (τ, d)
        → Part K 𝓛 (nth 𝓛 (spot 𝓛 E n i) Γ) q τ (spot_of 𝓤 H E i).1 (0 + c + d) v back → Opd K 𝓛 Γ E (copy (place i (field_step j ∷ field_step k ∷ []))) v
    inner t n {i} e f p = load t (from t (fld t e (fld t f (stop t)))) (look_in t (spot 𝓛 E n i) p)

    -- what lies behind a pointer that a local holds
    pub pointed : K → (n : ℕ) {i : ℕ} {τ : Ty} {b o : ℕ} {v : Val} → nth 𝓛 (spot 𝓛 E n i) Γ ≡ Holds 𝓛 E i (vptr b o) → Reads K 𝓛 Γ τ b o v
        → Opd K 𝓛 Γ E (copy (place i (deref τ ∷ []))) v
    pointed t n {i} e r = load t (from t (hop t (look t (spot 𝓛 E n i) e) (stop t))) r

    module _ {C : Calls 𝓤 H} {Λ : Loops 𝓤 H} {q : Post 𝓤 H} where
      -- and is overwritten
      pub puts : K → (n : ℕ) {i : ℕ} {τ : Ty} {b o : ℕ} {rv : RValue} {rest : Body} {v : Val} {Γ' : List (Item 𝓤)} → Rv K 𝓛 Γ E rv v
          → nth 𝓛 (spot 𝓛 E n i) Γ ≡ Holds 𝓛 E i (vptr b o) → Writes K 𝓛 Γ τ b o v Γ'
          → Step K 𝓛 Γ' (runs C Λ E rest q) Γ (runs C Λ E (seq (assign (place i (deref τ ∷ [])) rv) rest) q)
      puts t n {i} r e w = assigns t r (from t (hop t (look t (spot 𝓛 E n i) e) (stop t))) w

      pub sets : K → (n : ℕ) {i : ℕ} {rv : RValue} {rest : Body} {v : Val} → Rv K 𝓛 Γ E rv v → nth 𝓛 (spot 𝓛 E n i) Γ ≡ Empty 𝓛 E i
          → T (has_ty (spot_of 𝓤 H E i).0 v) × WT v
          → Step K 𝓛 (put 𝓛 (spot 𝓛 E n i) (Holds 𝓛 E i v) Γ) (runs C Λ E rest q) Γ (runs C Λ E (seq (assign (place i []) rv) rest) q)
      sets t n {i} r e wt = assigns t r (from t (stop t)) (init t (spot 𝓛 E n i) e wt)

      pub gets : K → (n : ℕ) {i : ℕ} {rest : Body} {v : Val} → nth 𝓛 (spot 𝓛 E n i) Γ ≡ Empty 𝓛 E i → T (has_ty (spot_of 𝓤 H E i).0 v) × WT v
          → Step K 𝓛 (put 𝓛 (spot 𝓛 E n i) (Holds 𝓛 E i v) Γ) (runs C Λ E rest q) Γ (lands C Λ E (place i []) v rest q)
      gets t n {i} e wt = land t (from t (stop t)) (init t (spot 𝓛 E n i) e wt)

      -- a local that holds v₀ is given another value
      pub resets : K → (n : ℕ) {i : ℕ} {rv : RValue} {rest : Body} {v₀ v : Val} → Rv K 𝓛 Γ E rv v → nth 𝓛 (spot 𝓛 E n i) Γ ≡ Holds 𝓛 E i v₀
          → T (has_ty (spot_of 𝓤 H E i).0 v) × WT v
          → Step K 𝓛 (put 𝓛 (spot 𝓛 E n i) (Holds 𝓛 E i v) Γ) (runs C Λ E rest q) Γ (runs C Λ E (seq (assign (place i []) rv) rest) q)
      resets t n {i} r e wt = assigns t r (from t (stop t)) (store t (spot 𝓛 E n i) e wt)

      pub resets-last : K → (n : ℕ) {i : ℕ} {rv : RValue} {v₀ v : Val} → Rv K 𝓛 Γ E rv v → nth 𝓛 (spot 𝓛 E n i) Γ ≡ Holds 𝓛 E i v₀
          → T (has_ty (spot_of 𝓤 H E i).0 v) × WT v
          → Step K 𝓛 (put 𝓛 (spot 𝓛 E n i) (Holds 𝓛 E i v) Γ) (prop (post 𝓤 H q next)) Γ (runs C Λ E (assign (place i []) rv) q)
      resets-last t n {i} r e wt = assigns_last t r (from t (stop t)) (store t (spot 𝓛 E n i) e wt)

    -- the function returns its result r, and its locals are freed. They are all of the context but its first n entries
    pub ends : K → (n : ℕ) (cs : List Content) {C : Calls 𝓤 H} {Λ : Loops 𝓤 H} {Kf : Val → SProp 𝓤} {r : Val}
        → nth 𝓛 (spot 𝓛 E n 0) Γ ≡ Holds 𝓛 E 0 r
        → back n Γ ≡ locals 𝓛 E cs [] → Step K 𝓛 (front n Γ) (prop (Kf r)) Γ (runs C Λ E return (at_ret E Kf))
    ends t n cs e all = step (λ s. returns t (look t (spot 𝓛 E n 0) e) $ leaves t n cs all $ s)

  module _ {G : Goal 𝓤 H} where
    -- a number before what the parameters after it own
    pub number : K → (w : Width) (n : ℕ) {P : Fml} → n < 2 ^ bits w → Step K 𝓛 (‵ (fsep ((UInt w).own_val n (vint w n ∷ [])) P) ∷ Γ) G (‵ P ∷ Γ) G
    number t w n fits = step (λ s. owned t (UInt w) (Is (UInt w)) (uint_Makes 𝓛 w) n (vint w n ∷ []) (refl, fits) $ fjoin t $ s)

    -- ---- an entry that leaves its place for a while
    pub takes : K → (n : ℕ) → Step K 𝓛 (nth 𝓛 n Γ ∷ put 𝓛 n (‵ ftrue) Γ) G Γ G
    takes t n = step (λ s. record {
      prf = via 𝓤 (sep 𝓤 (mean 𝓛 (nth 𝓛 n Γ)) (⋆ 𝓛 (del 𝓛 n Γ))) (pull 𝓛 n Γ)
          (via 𝓤 (sep 𝓤 (mean 𝓛 (nth 𝓛 n Γ)) (⋆ 𝓛 (put 𝓛 n (‵ ftrue) Γ)))
          (mono_r 𝓤 (mean 𝓛 (nth 𝓛 n Γ))
          (via 𝓤 (sep 𝓤 (emp 𝓤) (⋆ 𝓛 (del 𝓛 n Γ))) (emp∗ 𝓤 (⋆ 𝓛 (del 𝓛 n Γ))) (fill 𝓛 n (‵ ftrue) Γ)))
          (via 𝓤 (⋆ 𝓛 (nth 𝓛 n Γ ∷ put 𝓛 n (‵ ftrue) Γ)) (push 𝓛 (nth 𝓛 n Γ) (put 𝓛 n (‵ ftrue) Γ)) s.prf));
    })

    pub places : K → (n : ℕ) {i : Item 𝓤} → Step K 𝓛 (put 𝓛 n i Γ) G (i ∷ Γ) G
    places t n {i} = step (λ s. record {
      prf = via 𝓤 (sep 𝓤 (mean 𝓛 i) (⋆ 𝓛 Γ)) (pop 𝓛 i Γ)
          (via 𝓤 (sep 𝓤 (mean 𝓛 i) (⋆ 𝓛 (del 𝓛 n Γ)))
          (mono_r 𝓤 (mean 𝓛 i) (via 𝓤 (sep 𝓤 (mean 𝓛 (nth 𝓛 n Γ)) (⋆ 𝓛 (del 𝓛 n Γ))) (pull 𝓛 n Γ)
          (snd∗ 𝓤 (mean 𝓛 (nth 𝓛 n Γ)) (⋆ 𝓛 (del 𝓛 n Γ)))))
          (via 𝓤 (⋆ 𝓛 (put 𝓛 n i Γ)) (fill 𝓛 n i Γ) s.prf));
    })
