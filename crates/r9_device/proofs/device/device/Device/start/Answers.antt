use Rattle.std.proofs.Common.{◌≡◌, ℕ, false, true, None, Ok, sym, ap, ◌∙◌}
use Rattle.std.specs.Result.{result_unwrap_or}
use Rattle.model_text.specs.text.Outcome.{Outcome}
use Rattle.model_pixel.specs.Channels.{pack}
use Rattle.model_forest.specs.Numbers.{next_number, no_numbers, taken}
use Rattle.model_forest.specs.Steps.{after_image, after_set}
use Rattle.model_draw_parts.specs.images.Book.{Book, add_id, empty_book, new_screen}
use Rattle.model_draw.specs.draw.Orders.{dot, everywhere, with_root_rio}
use Rattle.model_draw.specs.draw.World.{World, background, started}
use Rattle.r9_layers.specs.Forest.{numbers, world}
use Rattle.r9_device.proofs.device.Starting.{kept-started, near-display, root_images, spare-started}
use Rattle.r9_device.proofs.device.Ties.{ties-started}
use Rattle.r9_device.proofs.device.device.Device.start.Goals as goal

pub invariant_of-result-clause-kept : goal.invariant_of-result-clause-kept
invariant_of-result-clause-kept c =
    let number : c.in_ok-display.display.0 ≡ 0 = c.in_ok-display.ensures.number ∙ ap next_number c.new-forest.ensures.numbers in
    let given : numbers c.image.new.self ≡ taken no_numbers = c.in_ok-display.ensures.taken ∙ ap taken c.new-forest.ensures.numbers in
    let second : c.in_ok-fill.fill.0 ≡ 1 = c.in_ok-fill.ensures.number ∙ ap next_number given in
    let first : world c.image.new.self ≡ after_image (λ _. None) 0 c.args.r c.args.chan c.pack-background.result =
    c.in_ok-display.ensures.made ∙ λ i. after_image (c.new-forest.ensures.world i) (number i) c.args.r c.args.chan c.pack-background.result in
    let images : world c.room.new.self ≡ root_images c.args.r c.args.chan c.pack-background.result =
    c.room.ensures.same.world ∙ c.in_ok-fill.ensures.made ∙ λ i. after_set (after_image (first i) (second i) dot c.args.chan c.pack-background.result) (second i) true everywhere in
    kept-started (world c.room.new.self) c.add_display.new.book.book c.add_root.new.book.book c.args.r c.args.chan c.pack-background.result c.requires.ordered
    (near-display c.args.r c.requires.left c.requires.top c.requires.ordered c.requires.width c.requires.height) images
    (ap (λ (n : ℕ). add_id empty_book 0 0 n None) (sym number) ∙ c.in_ok-add_display.ensures)
    ((λ i. new_screen c.add_display.new.book.book 0 0 false (sym number i) (sym second i)) ∙ c.in_ok-add_root.ensures)

pub returns : goal.returns
unfolding started with_root_rio
returns c =
    let number : c.in_ok-display.display.0 ≡ 0 = c.in_ok-display.ensures.number ∙ ap next_number c.new-forest.ensures.numbers in
    let given : numbers c.image.new.self ≡ taken no_numbers = c.in_ok-display.ensures.taken ∙ ap taken c.new-forest.ensures.numbers in
    let second : c.in_ok-fill.fill.0 ≡ 1 = c.in_ok-fill.ensures.number ∙ ap next_number given in
    let grey : c.pack-background.result ≡ background (record { r = c.args.r; chan = c.args.chan }) = c.pack-background.ensures.value ∙ ap (pack c.args.chan) c.of_word.ensures in
    let first : world c.image.new.self ≡ after_image (λ _. None) 0 c.args.r c.args.chan (background (record { r = c.args.r; chan = c.args.chan })) =
    c.in_ok-display.ensures.made ∙ λ i. after_image (c.new-forest.ensures.world i) (number i) c.args.r c.args.chan (grey i) in
    let images : world c.room.new.self ≡ root_images c.args.r c.args.chan (background (record { r = c.args.r; chan = c.args.chan })) =
    c.room.ensures.same.world ∙ c.in_ok-fill.ensures.made ∙ λ i. after_set (after_image (first i) (second i) dot c.args.chan (grey i)) (second i) true everywhere in
    let counted : numbers c.room.new.self ≡ taken (taken no_numbers) = c.room.ensures.same.numbers ∙ c.in_ok-fill.ensures.taken ∙ ap taken given in
    let made : add_id empty_book 0 0 0 None ≡ Ok c.add_display.new.book.book = ap (λ (n : ℕ). add_id empty_book 0 0 n None) (sym number) ∙ c.in_ok-add_display.ensures in
    let display : result_unwrap_or (add_id empty_book 0 0 0 None) empty_book ≡ c.add_display.new.book.book = ap (λ (o : Outcome Book). result_unwrap_or o empty_book) made in
    let root : new_screen (result_unwrap_or (add_id empty_book 0 0 0 None) empty_book) 0 0 false 0 1 ≡ Ok c.add_root.new.book.book =
    (λ i. new_screen (display i) 0 0 false (sym number i) (sym second i)) ∙ c.in_ok-add_root.ensures in
    let book : c.add_root.new.book.book ≡ result_unwrap_or (new_screen (result_unwrap_or (add_id empty_book 0 0 0 None) empty_book) 0 0 false 0 1) (result_unwrap_or (add_id empty_book 0 0 0 None) empty_book) =
    ap (λ (o : Outcome Book). result_unwrap_or o (result_unwrap_or (add_id empty_book 0 0 0 None) empty_book)) (sym root) in
    λ i. let w : World = record { opening = record { r = c.args.r; chan = c.args.chan }; images = images i; numbers = counted i; book = book i; clients = c.new.ensures.empty i } in w

pub invariant_of-result-clause-spare : goal.invariant_of-result-clause-spare
invariant_of-result-clause-spare c =
    let number : c.in_ok-display.display.0 ≡ 0 = c.in_ok-display.ensures.number ∙ ap next_number c.new-forest.ensures.numbers in
    let given : numbers c.image.new.self ≡ taken no_numbers = c.in_ok-display.ensures.taken ∙ ap taken c.new-forest.ensures.numbers in
    let second : c.in_ok-fill.fill.0 ≡ 1 = c.in_ok-fill.ensures.number ∙ ap next_number given in
    spare-started c.add_display.new.book.book c.add_root.new.book.book (ap (λ (n : ℕ). add_id empty_book 0 0 n None) (sym number) ∙ c.in_ok-add_display.ensures)
    ((λ i. new_screen c.add_display.new.book.book 0 0 false (sym number i) (sym second i)) ∙ c.in_ok-add_root.ensures)

pub invariant_of-result-clause-ties : goal.invariant_of-result-clause-ties
invariant_of-result-clause-ties c =
    let number : c.in_ok-display.display.0 ≡ 0 = c.in_ok-display.ensures.number ∙ ap next_number c.new-forest.ensures.numbers in
    ties-started c.add_display.new.book.book c.add_root.new.book.book c.in_ok-fill.fill.0 (ap (λ (n : ℕ). add_id empty_book 0 0 n None) (sym number) ∙ c.in_ok-add_display.ensures)
    (ap (λ (n : ℕ). new_screen c.add_display.new.book.book 0 0 false n c.in_ok-fill.fill.0) (sym number) ∙ c.in_ok-add_root.ensures)
