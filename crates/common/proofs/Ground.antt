-- What nearly every proof takes from the library, by the library's names, so that a file says in a line or two what it
-- stands on.
pub use mathlib.Core.Path.{◌∙◌, ◌≡◌, ap, refl, subst, sym}
pub use mathlib.Core.Bool.{Bool, ◌&&◌, ◌||◌, false, not, true, true≢false}
pub use mathlib.Core.Logic.{◌≢◌, ◌⊎◌, dite, inl, inr, ⊎_elim}
pub use mathlib.Core.List.Memᴰ.{cases_cons as Memᴰ-cases_cons}
pub use mathlib.Core.List.Memᴰ.{head as Memᴰ-head}
pub use mathlib.Core.List.Memᴰ.{not-nil as Memᴰ-not_nil}
pub use mathlib.Core.List.Memᴰ.{tail as Memᴰ-tail}
pub use mathlib.Core.List.{List, Memᴰ as Memᴰ}
pub use mathlib.Core.List.Memᴰ.{append_left as Memᴰ-append_left}
pub use mathlib.Core.List.Memᴰ.{append_right as Memᴰ-append_right}
pub use mathlib.Core.List.Sublistᴰ.{append as Sublistᴰ-append}
pub use mathlib.Core.List.Sublistᴰ.{cons as Sublistᴰ-cons}
pub use mathlib.Core.List.{Sublistᴰ}
pub use mathlib.Core.List.Sublistᴰ.{cons-cons as Sublistᴰ-cons_cons}
pub use mathlib.Core.List.Sublistᴰ.{eq-nil as Sublistᴰ-eq_nil}
pub use mathlib.Core.List.Sublistᴰ.{nil-sublist as Sublistᴰ-nil_sublist}
pub use mathlib.Core.List.Sublistᴰ.{refl as Sublistᴰ-refl}
pub use mathlib.Core.List.Sublistᴰ.{slnil as Sublistᴰ-slnil}
pub use mathlib.Core.List.{[], ◌++◌, ◌∷◌, append_assoc, append-nil, map, map-append}
pub use Prim.Native.Nat.{◌%◌, ◌*◌, ◌+◌, ◌-◌, ◌/◌, ◌<◌, ◌^◌, ◌≤◌, min, suc, zero, ℕ}
pub use native.Mathlib.Omega.{arith}
pub use native.Mathlib.Decide.{dec_lt, le_ind, ℕ_discrete}
pub use native.Mathlib.Numerals.{add-one}
pub use native.Mathlib.Nat.{add-sub_cancel_left, add-suc, add-zero, div-add-mod', div-lt_iff_lt-mul, mul-le-mul}
pub use native.Mathlib.Nat.{mul-le-mul_right, not-suc-le-zero, pow-suc, sub_self, sub-zero, suc-add, zero-add}
pub use lib.ListN.{get_or-append as get_or-append, get_or-eq_default as get_or-eq_default, drop, drop_of_length-le, get_or, get_or-replicate, length}
pub use lib.ListN.{length-append, length-drop, length-replicate, length-set, length-take, replicate, set, take}
pub use lib.Seq.{drop-append-add, drop_at, drop-cons, drop-drop, drop-length, drop-set-add, drop-set-lt, ext_get_or}
pub use lib.Seq.{get_or-append_seam, get_or-drop, get_or-set_other, get_or-set_same, get_or-take, length-take-le, paste}
pub use lib.Seq.{paste-suc, paste-zero, set_at, take_all, take-append-add, take-append-le, take_at, take-length}
pub use lib.Seq.{set_split, take-add, take-nil, take-set-le, take-set-lt, take-suc, take-suc-set}
pub use lib.Dec.{eqb, leb, lit≤, ltb}
pub use borrow.Author.Rules.{rules}
pub use borrow.Author.Tests.{eq-eqb, eqb-false, eqb-true, le-leb, le-ltb, leb-false, leb-true, lt-leb, lt-ltb}
pub use borrow.Author.Tests.{ltb-false, ltb-true, ne_eqb, not-false, not-true}

-- Each test of two numbers by what holds of them, for a search of what a choice by such tests comes to.
pub ruleset tests = (le-ltb, lt-ltb, le-leb, lt-leb, eq-eqb, ne_eqb)
