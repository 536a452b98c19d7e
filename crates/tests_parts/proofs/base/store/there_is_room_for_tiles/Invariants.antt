use Rattle.tests_parts.proofs.base.store.there_is_room_for_tiles.Given as goal

abbrev pub ghosts-writes_are_counted : goal.ghosts-writes_are_counted
ghosts-writes_are_counted g a = record { name = a.blank.name; parts = a.blank.parts }
