-- The functions of C with no premise left: an environment that has their code and the code of all that they call, and so each call as it
-- runs there. The checker makes for each crate a table of its functions and, from such tables below it, that a look-up finds them (`TheLink`);
-- here the tables of the crates are put side by side. Leans on Ran of demands.
use mathlib.Core.Path.{refl}
use mathlib.Core.List.{[], ◌∷◌}
use lib.Chars.{codes}
use mir.Syntax.{Symbol}
use prog.Routine.{Env}
use prog.Wired.{Wired}
use prog.Linked.{Entry, World, Holds, in_world}
use prog.LinkedThreads.{has-wired_t, tie_t, tie_t-follows, tie_t-threads}
use borrow.Fn.World as fn-world
use Rattle.hestovane.proofs.hestovane_condense.Kinds as condense-kinds
use Rattle.hestovane.proofs.hestovane_condense.Reads as condense-reads
use Rattle.hestovane.proofs.hestovane_condense.Symbol as condense-symbol
use Rattle.hestovane.proofs.hestovane_check.Kinds as check-kinds
use Rattle.hestovane.proofs.hestovane_check.Reads as check-reads
use Rattle.hestovane.proofs.hestovane_check.Symbol as check-symbol
use Rattle.hestovane.proofs.hestovane_ask_register.Kinds as ask-register-kinds
use Rattle.hestovane.proofs.hestovane_ask_register.Reads as ask-register-reads
use Rattle.hestovane.proofs.hestovane_ask_register.Symbol as ask-register-symbol
use Rattle.hestovane.proofs.hestovane_ask_summary.Kinds as ask-summary-kinds
use Rattle.hestovane.proofs.hestovane_ask_summary.Reads as ask-summary-reads
use Rattle.hestovane.proofs.hestovane_ask_summary.Symbol as ask-summary-symbol
use Rattle.hestovane.proofs.hestovane_list.Kinds as list-kinds
use Rattle.hestovane.proofs.hestovane_list.Reads as list-reads
use Rattle.hestovane.proofs.hestovane_list.Symbol as list-symbol
use Rattle.order.proofs.Linked as order-link
use Rattle.radix.proofs.Linked as radix-link
use Rattle.wire.proofs.Linked as wire-link
use Rattle.links.proofs.Linked as links-link
use Rattle.register.proofs.Linked as register-link
use Rattle.marked.proofs.Linked as marked-link
use Rattle.signature.proofs.Linked as signature-link
use Rattle.names.proofs.Linked as names-link
use Rattle.capped.proofs.Linked as capped-link
use Rattle.rows.proofs.Linked as rows-link
use Rattle.surround.proofs.Linked as surround-link
use Rattle.alike.proofs.Linked as alike-link
use Rattle.classes.proofs.Linked as classes-link
use Rattle.edges.proofs.Linked as edges-link
use Rattle.filed.proofs.Linked as filed-link
use Rattle.summary.proofs.Linked as summary-link
use Rattle.condense.proofs.Linked as condense-link
use Rattle.entry.proofs.Linked as entry-link
use Rattle.memo.proofs.Linked as memo-link
use Rattle.question.proofs.Linked as question-link
use Rattle.reader.proofs.Linked as reader-link
use Rattle.seek.proofs.Linked as seek-link
use Rattle.window.proofs.Linked as window-link
use Rattle.consult.proofs.Linked as consult-link
use Rattle.nearby.proofs.Linked as nearby-link
use Rattle.descent.proofs.Linked as descent-link
use Rattle.table.proofs.Linked as table-link
use Rattle.inquiry.proofs.Linked as inquiry-link
use Rattle.listed.proofs.Linked as listed-link
use Rattle.counted.proofs.Linked as counted-link
use Rattle.images.proofs.Linked as images-link
use Rattle.rowwise.proofs.Linked as rowwise-link
use Rattle.proposal.proofs.Linked as proposal-link
use Rattle.range.proofs.Linked as range-link
use Rattle.reach.proofs.Linked as reach-link
use Rattle.said.proofs.Linked as said-link
use Rattle.fields.proofs.Linked as fields-link
use Rattle.header.proofs.Linked as header-link
use Rattle.matching.proofs.Linked as matching-link
use Rattle.wellformed.proofs.Linked as wellformed-link
use Rattle.hestovane.proofs.Linked as hestovane-link
use Rattle.demands.proofs.Ran.{Runs, hestovane_condense_ran, hestovane_check_ran, hestovane_ask_register_ran, hestovane_ask_summary_ran, hestovane_list_ran}

-- each crate that is reached, with the table of its functions
pub world : World
world =
    (codes "hestovane", hestovane-link.table) ∷
    (codes "wellformed", wellformed-link.table) ∷
    (codes "matching", matching-link.table) ∷
    (codes "header", header-link.table) ∷
    (codes "fields", fields-link.table) ∷
    (codes "said", said-link.table) ∷
    (codes "reach", reach-link.table) ∷
    (codes "range", range-link.table) ∷
    (codes "proposal", proposal-link.table) ∷
    (codes "rowwise", rowwise-link.table) ∷
    (codes "images", images-link.table) ∷
    (codes "counted", counted-link.table) ∷
    (codes "listed", listed-link.table) ∷
    (codes "inquiry", inquiry-link.table) ∷
    (codes "table", table-link.table) ∷
    (codes "descent", descent-link.table) ∷
    (codes "nearby", nearby-link.table) ∷
    (codes "consult", consult-link.table) ∷
    (codes "window", window-link.table) ∷
    (codes "seek", seek-link.table) ∷
    (codes "reader", reader-link.table) ∷
    (codes "question", question-link.table) ∷
    (codes "memo", memo-link.table) ∷
    (codes "entry", entry-link.table) ∷
    (codes "condense", condense-link.table) ∷
    (codes "summary", summary-link.table) ∷
    (codes "filed", filed-link.table) ∷
    (codes "edges", edges-link.table) ∷
    (codes "classes", classes-link.table) ∷
    (codes "alike", alike-link.table) ∷
    (codes "surround", surround-link.table) ∷
    (codes "rows", rows-link.table) ∷
    (codes "capped", capped-link.table) ∷
    (codes "names", names-link.table) ∷
    (codes "signature", signature-link.table) ∷
    (codes "marked", marked-link.table) ∷
    (codes "register", register-link.table) ∷
    (codes "links", links-link.table) ∷
    (codes "wire", wire-link.table) ∷
    (codes "radix", radix-link.table) ∷
    (codes "order", order-link.table) ∷
    []

pub look : Symbol → Entry
look = in_world world

-- the environment that runs what the look-up finds; a call of any other name is stuck there
abbrev pub linked : Env
linked = tie_t look

-- each table is found under its name
there-order : Holds world "order" order-link.table
unfolding world
there-order = refl

there-radix : Holds world "radix" radix-link.table
unfolding world
there-radix = refl

there-wire : Holds world "wire" wire-link.table
unfolding world
there-wire = refl

there-links : Holds world "links" links-link.table
unfolding world
there-links = refl

there-register : Holds world "register" register-link.table
unfolding world
there-register = refl

there-marked : Holds world "marked" marked-link.table
unfolding world
there-marked = refl

there-signature : Holds world "signature" signature-link.table
unfolding world
there-signature = refl

there-names : Holds world "names" names-link.table
unfolding world
there-names = refl

there-capped : Holds world "capped" capped-link.table
unfolding world
there-capped = refl

there-rows : Holds world "rows" rows-link.table
unfolding world
there-rows = refl

there-surround : Holds world "surround" surround-link.table
unfolding world
there-surround = refl

there-alike : Holds world "alike" alike-link.table
unfolding world
there-alike = refl

there-classes : Holds world "classes" classes-link.table
unfolding world
there-classes = refl

there-edges : Holds world "edges" edges-link.table
unfolding world
there-edges = refl

there-filed : Holds world "filed" filed-link.table
unfolding world
there-filed = refl

there-summary : Holds world "summary" summary-link.table
unfolding world
there-summary = refl

there-condense : Holds world "condense" condense-link.table
unfolding world
there-condense = refl

there-entry : Holds world "entry" entry-link.table
unfolding world
there-entry = refl

there-memo : Holds world "memo" memo-link.table
unfolding world
there-memo = refl

there-question : Holds world "question" question-link.table
unfolding world
there-question = refl

there-reader : Holds world "reader" reader-link.table
unfolding world
there-reader = refl

there-seek : Holds world "seek" seek-link.table
unfolding world
there-seek = refl

there-window : Holds world "window" window-link.table
unfolding world
there-window = refl

there-consult : Holds world "consult" consult-link.table
unfolding world
there-consult = refl

there-nearby : Holds world "nearby" nearby-link.table
unfolding world
there-nearby = refl

there-descent : Holds world "descent" descent-link.table
unfolding world
there-descent = refl

there-table : Holds world "table" table-link.table
unfolding world
there-table = refl

there-inquiry : Holds world "inquiry" inquiry-link.table
unfolding world
there-inquiry = refl

there-listed : Holds world "listed" listed-link.table
unfolding world
there-listed = refl

there-counted : Holds world "counted" counted-link.table
unfolding world
there-counted = refl

there-images : Holds world "images" images-link.table
unfolding world
there-images = refl

there-rowwise : Holds world "rowwise" rowwise-link.table
unfolding world
there-rowwise = refl

there-proposal : Holds world "proposal" proposal-link.table
unfolding world
there-proposal = refl

there-range : Holds world "range" range-link.table
unfolding world
there-range = refl

there-reach : Holds world "reach" reach-link.table
unfolding world
there-reach = refl

there-said : Holds world "said" said-link.table
unfolding world
there-said = refl

there-fields : Holds world "fields" fields-link.table
unfolding world
there-fields = refl

there-header : Holds world "header" header-link.table
unfolding world
there-header = refl

there-matching : Holds world "matching" matching-link.table
unfolding world
there-matching = refl

there-wellformed : Holds world "wellformed" wellformed-link.table
unfolding world
there-wellformed = refl

there-hestovane : Holds world "hestovane" hestovane-link.table
unfolding world
there-hestovane = refl

-- each function of another crate that a crate calls is found, and all that it calls
below-wire : wire-link.Below world
below-wire = tt

below-range : range-link.Below world
below-range = tt

below-capped : capped-link.Below world
below-capped = tt

below-names : names-link.Below world
below-names = tt

below-links : links-link.Below world
below-links = (wire-link.has-two world there-wire below-wire, tt)

below-register : register-link.Below world
below-register = (links-link.has-fine world there-links below-links, (names-link.has-Item-index world there-names below-names, (wire-link.has-four world there-wire below-wire, (wire-link.has-two world there-wire below-wire, tt))))

below-nearby : nearby-link.Below world
below-nearby = (names-link.has-Item-index world there-names below-names, (register-link.has-Register-source world there-register below-register, (register-link.has-Register-target world there-register below-register, tt)))

below-entry : entry-link.Below world
below-entry = tt

below-question : question-link.Below world
below-question = (entry-link.has-read world there-entry below-entry, tt)

below-memo : memo-link.Below world
below-memo = tt

below-table : table-link.Below world
below-table = (names-link.has-Item-index world there-names below-names, (register-link.has-Register-far world there-register below-register, (register-link.has-Register-label world there-register below-register, (register-link.has-Register-near world there-register below-register, tt))))

below-descent : descent-link.Below world
below-descent = (entry-link.has-read world there-entry below-entry, (entry-link.has-shows world there-entry below-entry, (memo-link.has-decides world there-memo below-memo, (memo-link.has-recalled world there-memo below-memo, (memo-link.has-remember world there-memo below-memo, (memo-link.has-slot_of world there-memo below-memo, (nearby-link.has-Links-before world there-nearby below-nearby, (nearby-link.has-Links-last world there-nearby below-nearby, (nearby-link.has-put_ins world there-nearby below-nearby, (nearby-link.has-put_outs world there-nearby below-nearby, (question-link.has-span world there-question below-question, (register-link.has-Register-far world there-register below-register, (register-link.has-Register-label world there-register below-register, (register-link.has-Register-marks world there-register below-register, tt))))))))))))))

below-inquiry : inquiry-link.Below world
below-inquiry = (descent-link.has-ask world there-descent below-descent, (entry-link.has-read world there-entry below-entry, (entry-link.has-shows world there-entry below-entry, (names-link.has-Item-index world there-names below-names, (question-link.has-span world there-question below-question, (register-link.has-Register-marks world there-register below-register, (table-link.has-count world there-table below-table, (table-link.has-put_not world there-table below-table, (table-link.has-put_pair world there-table below-table, (table-link.has-put_reached world there-table below-table, (table-link.has-put_true world there-table below-table, tt)))))))))))

below-order : order-link.Below world
below-order = tt

below-radix : radix-link.Below world
below-radix = (order-link.has-sort world there-order below-order, tt)

below-rows : rows-link.Below world
below-rows = (capped-link.has-Capped-none world there-capped below-capped, (capped-link.has-Capped-one_more world there-capped below-capped, tt))

below-marked : marked-link.Below world
below-marked = (radix-link.has-sort world there-radix below-radix, (register-link.has-Register-marks world there-register below-register, tt))

below-signature : signature-link.Below world
below-signature = (marked-link.has-number_firsts world there-marked below-marked, (radix-link.has-sort world there-radix below-radix, tt))

below-surround : surround-link.Below world
below-surround = (names-link.has-Item-index world there-names below-names, (radix-link.has-sort world there-radix below-radix, (register-link.has-Register-far world there-register below-register, (register-link.has-Register-label world there-register below-register, (register-link.has-Register-near world there-register below-register, (rows-link.has-put_rows world there-rows below-rows, tt))))))

below-alike : alike-link.Below world
below-alike = (marked-link.has-by_marks world there-marked below-marked, (signature-link.has-Signatures-number world there-signature below-signature, (surround-link.has-put_item_rows world there-surround below-surround, tt)))

below-said : said-link.Below world
below-said = tt

below-summary : summary-link.Below world
below-summary = (wire-link.has-put_numbers world there-wire below-wire, tt)

below-classes : classes-link.Below world
below-classes = (capped-link.has-by_class world there-capped below-capped, (names-link.has-Class-as_group world there-names below-names, (names-link.has-Class-index world there-names below-names, (register-link.has-Register-marks world there-register below-register, tt))))

below-filed : filed-link.Below world
below-filed = tt

below-edges : edges-link.Below world
below-edges = (names-link.has-Class-index world there-names below-names, (names-link.has-Item-index world there-names below-names, (radix-link.has-sort world there-radix below-radix, (register-link.has-Register-label world there-register below-register, (register-link.has-Register-source world there-register below-register, (register-link.has-Register-target world there-register below-register, tt))))))

below-condense : condense-link.Below world
below-condense = (alike-link.has-levels world there-alike below-alike, (classes-link.has-records world there-classes below-classes, (edges-link.has-class_links world there-edges below-edges, (filed-link.has-row_numbers world there-filed below-filed, (summary-link.has-file world there-summary below-summary, (summary-link.has-head world there-summary below-summary, tt))))))

below-seek : seek-link.Below world
below-seek = tt

below-reader : reader-link.Below world
below-reader = (names-link.has-Class-index world there-names below-names, (names-link.has-Item-index world there-names below-names, (wire-link.has-four world there-wire below-wire, (wire-link.has-two world there-wire below-wire, tt))))

below-header : header-link.Below world
below-header = (reader-link.has-Summary-classes world there-reader below-reader, (reader-link.has-Summary-items world there-reader below-reader, (reader-link.has-Summary-links world there-reader below-reader, (reader-link.has-Summary-rows world there-reader below-reader, (wire-link.has-two world there-wire below-wire, tt)))))

below-fields : fields-link.Below world
below-fields = (range-link.has-within world there-range below-range, (reader-link.has-Summary-class_cap world there-reader below-reader, (reader-link.has-Summary-classes world there-reader below-reader, (reader-link.has-Summary-count world there-reader below-reader, (reader-link.has-Summary-group world there-reader below-reader, (reader-link.has-Summary-groups world there-reader below-reader, (reader-link.has-Summary-items world there-reader below-reader, (reader-link.has-Summary-near_cap world there-reader below-reader, (wire-link.has-two world there-wire below-wire, tt)))))))))

below-matching : matching-link.Below world
below-matching = (reader-link.has-Summary-group world there-reader below-reader, (reader-link.has-Summary-link_label world there-reader below-reader, (reader-link.has-Summary-link_source world there-reader below-reader, (reader-link.has-Summary-link_target world there-reader below-reader, (reader-link.has-Summary-links world there-reader below-reader, (reader-link.has-Summary-rows world there-reader below-reader, (seek-link.has-same_members world there-seek below-seek, tt)))))))

below-wellformed : wellformed-link.Below world
below-wellformed = (fields-link.has-Rows-fine world there-fields below-fields, (fields-link.has-Rows-key world there-fields below-fields, (fields-link.has-Rows-of world there-fields below-fields, (fields-link.has-class_fine world there-fields below-fields, (fields-link.has-map_fine world there-fields below-fields, (header-link.has-few world there-header below-header, (header-link.has-read world there-header below-header, (links-link.has-fine world there-links below-links, (matching-link.has-Ordered-rows_match world there-matching below-matching, (names-link.has-Group-index world there-names below-names, (range-link.has-in_range world there-range below-range, (reader-link.has-Summary-class_cap world there-reader below-reader, (reader-link.has-Summary-classes world there-reader below-reader, (reader-link.has-Summary-group world there-reader below-reader, (reader-link.has-Summary-groups world there-reader below-reader, (reader-link.has-Summary-level world there-reader below-reader, (reader-link.has-Summary-links world there-reader below-reader, (reader-link.has-Summary-near_cap world there-reader below-reader, (reader-link.has-Summary-rows world there-reader below-reader, (seek-link.has-all_marked world there-seek below-seek, (wire-link.has-two world there-wire below-wire, tt)))))))))))))))))))))

below-counted : counted-link.Below world
below-counted = (capped-link.has-by_class world there-capped below-capped, (reader-link.has-Summary-class_of world there-reader below-reader, (reader-link.has-Summary-classes world there-reader below-reader, (reader-link.has-Summary-count world there-reader below-reader, (reader-link.has-Summary-marks world there-reader below-reader, (register-link.has-Register-marks world there-register below-register, tt))))))

below-images : images-link.Below world
below-images = (reader-link.has-Summary-class_of world there-reader below-reader, (reader-link.has-Summary-link_label world there-reader below-reader, (reader-link.has-Summary-link_source world there-reader below-reader, (reader-link.has-Summary-link_target world there-reader below-reader, (reader-link.has-Summary-links world there-reader below-reader, (register-link.has-Register-label world there-register below-register, (register-link.has-Register-source world there-register below-register, (register-link.has-Register-target world there-register below-register, (seek-link.has-same_members world there-seek below-seek, tt)))))))))

below-rowwise : rowwise-link.Below world
below-rowwise = (reader-link.has-Summary-class_of world there-reader below-reader, (reader-link.has-Summary-group world there-reader below-reader, (reader-link.has-Summary-row_count world there-reader below-reader, (reader-link.has-Summary-row_group world there-reader below-reader, (reader-link.has-Summary-row_way world there-reader below-reader, (seek-link.has-find world there-seek below-seek, (surround-link.has-put_item_rows world there-surround below-surround, tt)))))))

below-proposal : proposal-link.Below world
below-proposal = (counted-link.has-counts_equal world there-counted below-counted, (counted-link.has-marks_equal world there-counted below-counted, (images-link.has-links_are_images world there-images below-images, (reader-link.has-Summary-class_cap world there-reader below-reader, (reader-link.has-Summary-items world there-reader below-reader, (reader-link.has-Summary-near_cap world there-reader below-reader, (rowwise-link.has-rows_equal world there-rowwise below-rowwise, tt)))))))

below-window : window-link.Below world
below-window = (names-link.has-Group-index world there-names below-names, (reader-link.has-Summary-classes world there-reader below-reader, (reader-link.has-Summary-group world there-reader below-reader, (seek-link.has-find world there-seek below-seek, tt))))

below-consult : consult-link.Below world
below-consult = (entry-link.has-read world there-entry below-entry, (entry-link.has-shows world there-entry below-entry, (memo-link.has-decides world there-memo below-memo, (memo-link.has-recalled world there-memo below-memo, (memo-link.has-remember world there-memo below-memo, (memo-link.has-slot_of world there-memo below-memo, (question-link.has-span world there-question below-question, (reader-link.has-Summary-marks world there-reader below-reader, (reader-link.has-Summary-row_count world there-reader below-reader, (reader-link.has-Summary-row_group world there-reader below-reader, (window-link.has-lowest_of world there-window below-window, (window-link.has-put_lowest world there-window below-window, (window-link.has-rows_of world there-window below-window, tt)))))))))))))

below-reach : reach-link.Below world
below-reach = (reader-link.has-Summary-level world there-reader below-reader, (reader-link.has-Summary-near_cap world there-reader below-reader, tt))

below-listed : listed-link.Below world
below-listed = (names-link.has-Class-index world there-names below-names, (reader-link.has-Summary-class_of world there-reader below-reader, (reader-link.has-Summary-items world there-reader below-reader, (wire-link.has-put_numbers world there-wire below-wire, tt))))

below-hestovane : hestovane-link.Below world
below-hestovane = (condense-link.has-condense world there-condense below-condense, (consult-link.has-ask world there-consult below-consult, (consult-link.has-put_answers world there-consult below-consult, (inquiry-link.has-ask world there-inquiry below-inquiry, (listed-link.has-put_items world there-listed below-listed, (listed-link.has-put_list world there-listed below-listed, (proposal-link.has-check world there-proposal below-proposal, (question-link.has-judge world there-question below-question, (range-link.has-in_range world there-range below-range, (reach-link.has-beyond world there-reach below-reach, (reader-link.has-Summary-class_of world there-reader below-reader, (reader-link.has-Summary-classes world there-reader below-reader, (reader-link.has-Summary-items world there-reader below-reader, (register-link.has-judge world there-register below-register, (said-link.has-coded world there-said below-said, (said-link.has-measured world there-said below-said, (wellformed-link.has-judge world there-wellformed below-wellformed, tt)))))))))))))))))

pub hestovane_condense_linked : Wired linked condense-symbol.code
unfolding look
hestovane_condense_linked =
    has-wired_t look linked (tie_t-follows look) (tie_t-threads look) condense-symbol.code
    (hestovane-link.has-hestovane_condense world there-hestovane below-hestovane)

pub hestovane_condense_runs : (w : fn-world.World) →
    Runs w condense-kinds.ps condense-kinds.r condense-reads.Learnt (linked condense-symbol.name)
hestovane_condense_runs w = hestovane_condense_ran w linked hestovane_condense_linked

pub hestovane_check_linked : Wired linked check-symbol.code
unfolding look
hestovane_check_linked =
    has-wired_t look linked (tie_t-follows look) (tie_t-threads look) check-symbol.code
    (hestovane-link.has-hestovane_check world there-hestovane below-hestovane)

pub hestovane_check_runs : (w : fn-world.World) →
    Runs w check-kinds.ps check-kinds.r check-reads.Learnt (linked check-symbol.name)
hestovane_check_runs w = hestovane_check_ran w linked hestovane_check_linked

pub hestovane_ask_register_linked : Wired linked ask-register-symbol.code
unfolding look
hestovane_ask_register_linked =
    has-wired_t look linked (tie_t-follows look) (tie_t-threads look) ask-register-symbol.code
    (hestovane-link.has-hestovane_ask_register world there-hestovane below-hestovane)

pub hestovane_ask_register_runs : (w : fn-world.World) →
    Runs w ask-register-kinds.ps ask-register-kinds.r ask-register-reads.Learnt (linked ask-register-symbol.name)
hestovane_ask_register_runs w = hestovane_ask_register_ran w linked hestovane_ask_register_linked

pub hestovane_ask_summary_linked : Wired linked ask-summary-symbol.code
unfolding look
hestovane_ask_summary_linked =
    has-wired_t look linked (tie_t-follows look) (tie_t-threads look) ask-summary-symbol.code
    (hestovane-link.has-hestovane_ask_summary world there-hestovane below-hestovane)

pub hestovane_ask_summary_runs : (w : fn-world.World) →
    Runs w ask-summary-kinds.ps ask-summary-kinds.r ask-summary-reads.Learnt (linked ask-summary-symbol.name)
hestovane_ask_summary_runs w = hestovane_ask_summary_ran w linked hestovane_ask_summary_linked

pub hestovane_list_linked : Wired linked list-symbol.code
unfolding look
hestovane_list_linked =
    has-wired_t look linked (tie_t-follows look) (tie_t-threads look) list-symbol.code
    (hestovane-link.has-hestovane_list world there-hestovane below-hestovane)

pub hestovane_list_runs : (w : fn-world.World) →
    Runs w list-kinds.ps list-kinds.r list-reads.Learnt (linked list-symbol.name)
hestovane_list_runs w = hestovane_list_ran w linked hestovane_list_linked
