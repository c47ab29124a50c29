-- A share that was cut and put together again is as much as before.
use Rattle.std.proofs.Common.{◌≡◌, ℕ, ◌+◌, ◌-◌, ◌*◌, ◌^◌, max, refl, ap, ap₂, sym, subst, ◌∙◌, Result, Ok, Err, IfOk, IfErr, arith, pow-add, pow-suc, add-one}
use Rattle.std.proofs.Math.Nat.{max-eq_left}
use Rattle.std.specs.declared.thread.PromisedHandle.{PromisedHandle}
use Rattle.dc_cache.specs.declared.cache.Pass.{Pass}
use Rattle.dc_table.specs.Shares.{IsWhole, Known, Share, both, kept_half, new_half}
use Rattle.dc_serve.specs.Served.{Gives}
use Rattle.dc_serve.specs.Sessions.{SameShare}
use Rattle.dc_serve.specs.Threads.{Returns}
use Rattle.dc_serve.specs.declared.fault.ServeFault.{ServeFault}
use Rattle.dc_serve.specs.declared.phase.Handed.{Handed}
use Rattle.dc_serve.specs.declared.session.SessionReplies.{SessionReplies}

-- a pass was cut in two, the old half took in others, the new half served a session, and was taken in
pub record Fork (v a u b c w : Known) : Type 0 where
  pub cut : a ≡ kept_half v
  pub new : u ≡ new_half v
  pub joined : w ≡ both b c

twice : (n d a b : ℕ) → a ≡ 0 → b ≡ d → n * 2 ^ d * 2 ^ a + n * 2 ^ b ≡ n * 2 ^ (d + 1)
twice n d a b z e =
    let p : ℕ = 2 ^ d in
    let one : 2 ^ a ≡ 1 = ap (λ k. 2 ^ k) z in
    let s : 2 ^ (d + 1) ≡ p * 2 = ap (λ k. 2 ^ k) (add-one d) ∙ pow-suc 2 d in
    let q : 2 ^ b ≡ p = ap (λ k. 2 ^ k) e in
    rw (one, q, s) (grind arith)

added_again : (n h d bp bh cp ch : ℕ) → bp ≡ n * 2 ^ d → bh ≡ h + 1 + d → cp ≡ n → ch ≡ h + 1
    → (bp * 2 ^ (max bh ch - bh) + cp * 2 ^ (max bh ch - ch) ≡ n * 2 ^ (d + 1)) × (max bh ch ≡ h + (d + 1))
added_again n h d bp bh cp ch a b c e =
    let top : max bh ch ≡ bh = max-eq_left (omega arith) in
    let m : ℕ = max bh ch in
    (ap₂ (λ x y. x * 2 ^ (m - bh) + y * 2 ^ (m - ch)) a c ∙ twice n d (m - bh) (m - ch) (omega arith) (omega arith), omega arith)

pub same_fork : (v a u b c w : Known) → Fork v a u b c w → SameShare a.share b.share → c.share ≡ u.share → SameShare v.share w.share
same_fork v a u b c w k others one =
    let cut = ap (λ (z : Known). z.share) k.cut in
    let new = one ∙ ap (λ (z : Known). z.share) k.new in
    let put = ap (λ (z : Known). z.share) k.joined in
    let sums = added_again v.share.parts v.share.halvings others.more b.share.parts b.share.halvings c.share.parts c.share.halvings
    (others.parts ∙ ap (λ (s : Share). s.parts * 2 ^ others.more) cut) (others.halvings ∙ ap (λ (s : Share). s.halvings + others.more) cut)
    (ap (λ (s : Share). s.parts) new) (ap (λ (s : Share). s.halvings) new) in
    record {
      limit = ap (λ (s : Share). s.limit) put ∙ others.limit ∙ ap (λ (s : Share). s.limit) cut;
      more = others.more + 1;
      parts = ap (λ (s : Share). s.parts) put ∙ sums.0;
      halvings = ap (λ (s : Share). s.halvings) put ∙ sums.1;
    }

pub same_still : (s : Share) → SameShare s s
same_still s = record { limit = refl; more = 0; parts = once s.parts; halvings = none s.halvings }
  where
    once : (n : ℕ) → n ≡ n * 2 ^ 0
    once n = omega arith

    none : (n : ℕ) → n ≡ n + 0
    none n = omega arith

-- a whole share stays whole
pub whole_same : (s t : Share) → IsWhole s → SameShare s t → IsWhole t
whole_same s t whole same = same.parts ∙ ap (λ x. x * 2 ^ same.more) whole ∙ sym (pow-add 2 s.halvings same.more) ∙ ap (λ x. 2 ^ x) (sym same.halvings)

-- what a session gives back is what its thread was handed to give
pub gave_back : (started : Result (PromisedHandle (Pass × Result SessionReplies ServeFault) Handed) (Pass × Result SessionReplies ServeFault)) (handed : Handed) (back : Pass × Result SessionReplies ServeFault)
    → IfOk started (λ handle. handle.promise ≡ handed) → IfErr started (Returns handed) → Gives started back → Returns handed back
gave_back (Ok handle) handed back is left gives = subst (λ (h : Handed). Returns h back) is gives
gave_back (Err other) handed back is left gives = subst (Returns handed) (sym gives) left

module _ (started : Result (PromisedHandle (Pass × Result SessionReplies ServeFault) Handed) (Pass × Result SessionReplies ServeFault)) (back : Pass × Result SessionReplies ServeFault) where
  -- the thread that was started kept its promise
  pub by_thread : (handle : PromisedHandle (Pass × Result SessionReplies ServeFault) Handed) (given : Pass × Result SessionReplies ServeFault) → started ≡ Ok handle → back ≡ given → Returns handle.promise given → Gives started back
  by_thread handle given is same kept = subst (λ (s : Result (PromisedHandle (Pass × Result SessionReplies ServeFault) Handed) (Pass × Result SessionReplies ServeFault)). Gives s back) (sym is) (subst (Returns handle.promise) (sym same) kept)

  -- none was started
  pub at_once : (left : Pass × Result SessionReplies ServeFault) → started ≡ Err left → back ≡ left → Gives started back
  at_once left is same = subst (λ (s : Result (PromisedHandle (Pass × Result SessionReplies ServeFault) Handed) (Pass × Result SessionReplies ServeFault)). Gives s back) (sym is) same
