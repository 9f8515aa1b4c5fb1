-- The names that several proofs of this crate take from elsewhere.
pub use Rattle.std.proofs.Common.{◌<◌, ℕ, sym, subst, ◌∙◌, length, ap, inl, inr, refl, rules, ◌≤◌}
pub use Rattle.std.specs.declared.option.Option.{Option}
pub use Rattle.std.specs.declared.option.Option.TheVariants.{None, Some}
pub use Rattle.std.proofs.lemmas.Result.{IfErr-weaker}
pub use base.{Fml.{ftrue, fsep, Lft, GName, Share, Fml, flft, fres}, Fraction.full_share, Logic.{ent, via, snd∗, fst∗, never, guard, guard_i, SProp, emp, sep, id⊢}}
pub use contract.{BorrowLft.◌⊑◌, Monad.{fact_use, Fun, fact}, Running.tables}
pub use denote.{Exit.{yes, no}, Memory.{lone, mem, cell_at, part_at}, Param.{bounded, layout}, RattleType.{Valss, RattleType, owns}, RawPtr.{Ptr, Testable, block_ptr, null_ptr, ptr_val, lies_at, in_a_block, tests_null, RawPtr}, Signature.{Slot, plain, type_at, mut_ref_to}, Steps.{nothing, opens, closes, heard, only}}
pub use denote.Struct.{Owning.{fields, shape, to}, Struct.{exits_of, within}}
pub use denote.Triple.{Call.{calls_at, calls_at_last}, Clauses.{Clauses, at_exit, Ended}, Spec.triple_of, Statement.{Contract, Triple}, Table.entered, Walked.{says, Stays, stay_dropped, walk_of, ends_at, Goes-dropped, walk_Meets, walked, Goes-spent_ref}}
pub use lib.Dec.{T, lit<}
pub use mathlib.Core.{List.{[], List, ◌∷◌, ◌++◌}, Path.◌≡◌}
pub use mir.{MapTy.inst_fn, Syntax.{impl, tnil, dnil, named, Fn, Body, place, copy, assign, rv_opd, seq, return, Args, Dict, a_type, dcons}, Val.{Val, WT, has_ty, vstruct, vcons, vnil, vnull, of_list, vptr}}
pub use prog.{Memory.Memory, Routine.Routine, Wp.{WpFn, Tables, Env}}
pub use seplogic.Ra.Ura.{Ura}
pub use sound.WpLaws.{WpFn-mono, fm_of}
pub use types.{ByLocal.{alloc_all, pass_all, free_all, look_at, get, sets, through, sets_last, env, get_in, lands_last, lands_as}, Kit.{Goal, Seq, Step, step, Item, ‵, given, ◌$◌, move, drop, use1, learn, fsplit, fjoin, fpick, fpack, feq_l, feq_i, raw, ◌⊛◌, ◌∵◌, !, qed, by, join, split, suffices, done, some, later, at_ret, keep, split3, group, frame, rewrite, fsplit3, pick, use0, await}, Logic.{Logic, sem}, Match.live, Part.{agg, look_in, sub, whole}, Run.{lit, no_more, and_then, returns, enter, stop, fld, load, addr, of_opd, bin, first, blocks, branches, skips, exec, returns_within}}
pub use Rattle.core.proofs.alloc.{Calls.{Fits, α, handle_tells, token, Goes-blank}, Shapes.after}
pub use Rattle.core.proofs.option.Made.{Some-of, none_of}
pub use Rattle.core.proofs.result.Match.{if_ok_then}
pub use Rattle.std_alloc.proofs.BoxSteps.{Form.{Bx, X, R, handle, box_ty, τ, word, D, box_typed, B, P, args}, Steps.{box_in, box_out}}
pub use Rattle.std_alloc.proofs.ResultValues.{and_tt}
pub use Rattle.std_alloc.specs.Box.Ownership.{box_owns}
pub use Rattle.std_heap.specs.contracts.GlobalAllocator.TheImpl.{ghosts, dict}
pub use Rattle.std_heap.specs.declared.Global.{Global}
pub use Rattle.partial_words.specs.Layout.{Layout, pool_base}
pub use Rattle.partial_memory.specs.Ports.{IsOf, MemoryView, new_ports}
pub use Rattle.partial_long_lived.specs.Ports.{PortView}
pub use Rattle.partial_door.specs.declared.held.Held.{Held}
pub use Rattle.partial_door.specs.Inner.{Openings.{IsUnclosedOpening, IsOpeningKept}, Memories.{IsUnclosed, IsUnready}}
pub use Rattle.partial_door.specs.{Memories.IsNewMemory, OpeningMemories.{ClosesOpening, HasOpened}, Owned.handle_owns}
