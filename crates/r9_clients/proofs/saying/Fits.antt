-- What a client says when it begins fits into bytes.
use Rattle.std.proofs.Common.{◌≡◌, ◌<◌, ◌^◌, ℕ, List, [], codes, refl, sym, subst, arith}
use Rattle.std.specs.Char.{encode_utf8}
use Rattle.std.specs.Str.{chars, is_utf8}
use Rattle.std.proofs.lemmas.Str.{IsUtf8-from_is_utf8}
use Rattle.model_files.specs.wire.Message.{T, Tattach, Topen, Twalk, no_fid}
use Rattle.model_files.specs.wire.Spelling.{message, sized}
use Rattle.model_clients.specs.client.Files.{to_data, to_new}
use Rattle.model_clients.specs.client.Saying.{hello}
use Rattle.law_text.specs.client.Saying.{MaySay, greeted}
use Rattle.law_text.proofs.client.May.{may_open, may_walk_data, may_walk_new}
use Rattle.r9_clients.specs.saying.Lines.{CanSay}

pub can : (m : T) → MaySay greeted m → CanSay m
can m may = record { spelled = may.spelled; short = may.short }

hello_can : CanSay hello
unfolding is_utf8 chars encode_utf8 message sized
hello_can = record {
  spelled = record { sizes = (omega arith, omega arith); fits = (IsUtf8-from_is_utf8 (codes "9P2000") refl, omega arith); spelled = refl };
  short = omega arith;
}

pub hello_said : (m : T) → m ≡ hello → CanSay m
hello_said m e = subst CanSay (sym e) hello_can

pub attach_said : (name all : List ℕ) → name ≡ all → MaySay greeted (Tattach 1 0 no_fid [] all) → CanSay (Tattach 1 0 no_fid [] name)
attach_said name all e may = subst (λ (text : List ℕ). CanSay (Tattach 1 0 no_fid [] text)) (sym e) (can (Tattach 1 0 no_fid [] all) may)

pub walk_said : (fid : ℕ) (names way : List (List ℕ)) → names ≡ way → MaySay greeted (Twalk 1 0 fid way) → CanSay (Twalk 1 0 fid names)
walk_said fid names way e may = subst (λ (ns : List (List ℕ)). CanSay (Twalk 1 0 fid ns)) (sym e) (can (Twalk 1 0 fid way) may)

pub to_new_said : (fid : ℕ) (names : List (List ℕ)) → fid < 2 ^ 32 → names ≡ to_new → CanSay (Twalk 1 0 fid names)
to_new_said fid names few e = walk_said fid names to_new e (may_walk_new greeted 0 fid refl (omega arith) few)

pub to_data_said : (fid : ℕ) (names : List (List ℕ)) → fid < 2 ^ 32 → names ≡ to_data → CanSay (Twalk 1 0 fid names)
to_data_said fid names few e = walk_said fid names to_data e (may_walk_data greeted 0 fid refl (omega arith) few)

pub open_said : (fid mode : ℕ) → fid < 2 ^ 32 → mode < 2 ^ 8 → CanSay (Topen 1 fid mode)
open_said fid mode few small = can (Topen 1 fid mode) (may_open greeted fid mode refl few small)
