-- The names of the logic that the proofs by hand cite, passed on from one place. No laws of its own.
pub use mathlib.Core.Path.{◌≡◌, refl, sym, ap, subst, ◌∙◌}
pub use Prim.Native.Nat.{ℕ, ◌≤◌, ◌<◌, ◌+◌, ◌*◌, ◌^◌, zero-le}
pub use mathlib.Core.List.{List, [], ◌∷◌, ◌++◌}
pub use lib.Dec.{lit<, T as Holds, ltb, ltb→lt, nltb→le}
pub use lib.ListN.{length, replicate, length-replicate, get_or, set, length-set}
pub use seplogic.Ra.Ura.{Ura}
pub use base.Fraction.{full_share}
pub use mir.Syntax.{Ty, Fn, local, value_local, memory_slot, named, erased, imm, mut, w8, w64, ty_int, ty_unit, ty_ref, w32, ty_bool, ty_ptr}
pub use mir.Val.{Val, vunit, vint, WT, has_ty, vptr}
pub use base.Logic.{SProp, ent, emp, via, fst∗, assoc∗, id⊢}
pub use base.Fml.{Lft, Share, GName, Fml, ftrue, fat, froom, flft, flent, fobs, fbor}
pub use prog.Memory.{Memory}
pub use prog.Routine.{Routine}
pub use prog.Wp.{Heap, Env, Calls, Loops, Wp, at_return, WpFn, Tables, Out, after_seq, after_block}
unfoldable pub use prog.Wp.{after_turn}
pub use ghost.Atoms.{Atoms}
pub use contract.Monad.{Fun, fact, fact_i}
pub use contract.Lifetimes.{Lfts, Shares}
unfoldable pub use contract.Running.{tables, tables_of}
pub use types.Kit.{Item, ‵, raw, ◌⊛◌, ⋆, put, some, later, at_ret, ◌$◌, ◌∵◌, !, qed, by, move, keep, drop, use1, use3, split, split3, join, group, pick}
pub use types.Kit.{rewrite, fsplit, fjoin, feq_l, suffices, frame, await, done, runs, prop, any_q, Sq, feq_i}
pub use types.Tokens.{lft_new, lft_end, lent_back}
pub use types.Part.{agg, rep, whole, sub, look_in}
pub use types.Run.{forget, stop, hop, fld, from, lit, addr, of_opd, and_then, no_more, exec, look_raw, store_raw, unit_lit, bin, first, blocks as into_block}
pub use types.Run.{Below, again, loops}
pub use types.SemTy.{cells}
pub use sound.WpLaws.{FmC, fm_of}
pub use denote.RattleType.{flat, owns}
pub use denote.Laws.{Is, Ises, Are, valss, all_Typed, shows}
pub use denote.Memory.{mem, pointee}
pub use denote.Plain.{Nothing-Tells, uint_copy}
pub use denote.Builtin.{u8, u32, usize}
pub use denote.Ref.{Bor, MutBor, NamedLft}
pub use denote.Signature.{types_at, named_lft}
pub use denote.Slice.{slice_ty, slice_val, MutSlice, ShrSlice, Room, finally, shr_slice_vals, mut_slice_vals, shr_slice_copy, heres, coded_holeys, shr_slice_at, mut_slice_at}
pub use denote.Lend.{Held, lends_slice, lends_shr_slice}
pub use denote.Steps.{owned as owned_by, heard, nothing, peeks}
pub use denote.Triple.Statement.{Contract, Triple}
pub use denote.Triple.Entry.{Args, Vals, on_entry}
pub use denote.Triple.Spec.{Meets, triple_of}
pub use denote.Triple.Table.{entered, cited}
pub use denote.Triple.Walked.{says, on_exit, walk_of, ends_at, needs}
pub use native.Mathlib.Nat.{le_antisymm, lt_of_lt_of_le, lt_of_le_of_lt}
pub use native.Mathlib.Numerals.{add-one}
pub use native.Mathlib.Omega.{arith}
pub use denote.Shadow.{pure_i}
pub use denote.Index.{place_is, elem_out, elem_put, opens_slice, closes_slice}
pub use denote.Struct.Rest.{own_shut}
