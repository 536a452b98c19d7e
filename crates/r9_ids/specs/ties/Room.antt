-- The room of each part, where none has less.
use Rattle.std.specs.Prelude.{◌≤◌, vec_capacity}
use Rattle.std.specs.HashMap.{spare}
use Rattle.r9_ids.specs.declared.ties.index.Index.{Index}

pub record HasGrown (old new : Index) : Type 0 where
  pub order : old.order.room ≤ new.order.room
  pub owners : old.owners.room ≤ new.owners.room
  pub store : spare old.store ≤ spare new.store
  pub names : spare old.names ≤ spare new.names
  pub text : vec_capacity old.text ≤ vec_capacity new.text
  pub key_text : vec_capacity old.key_text ≤ vec_capacity new.key_text
