-- The elements of ONIX for Books, release 3.0 and 3.1, that say something to the desk.
use Rattle.std.specs.Prelude.{List, [], ◌∷◌, ◌++◌}
use Rattle.feed_outline.specs.Names.{Word, apart_of, counted_alone_of, vocabulary_of}

-- Of each composite its name, and then its children. The Territory of a Price in ONIX 2.1 has a
-- short tag alone: no element is called by its other name here.
unfoldable pub desk_vocabulary : List Word
desk_vocabulary =
    vocabulary_of
    ("ONIXMessage Header Product NoProduct=x507"
    ∷ "Header Sender Addressee MessageNumber=m180 MessageRepeat=m181 SentDateTime=x307"
    ∷ "Header DefaultPriceType=x310 DefaultCurrencyCode=m186"
    ∷ "Sender SenderIdentifier"
    ∷ "SenderIdentifier SenderIDType=m379 IDValue=b244"
    ∷ "Addressee AddresseeIdentifier"
    ∷ "AddresseeIdentifier AddresseeIDType=m380 IDValue=b244"
    ∷ "Product RecordReference=a001 NotificationType=a002 ProductIdentifier ProductSupply"
    ∷ "ProductIdentifier ProductIDType=b221 IDValue=b244"
    ∷ "ProductSupply Market SupplyDetail"
    ∷ "Market Territory"
    ∷ "Territory CountriesIncluded=x449 RegionsIncluded=x450 CountriesExcluded=x451"
    ∷ "Territory RegionsExcluded=x452"
    ∷ "SupplyDetail OrderQuantityMinimum=x532 Supplier ProductAvailability=j396"
    ∷ "SupplyDetail UnpricedItemType=j192 Price SupplyToCountry=j138 SupplyToRegion=j139"
    ∷ "SupplyDetail SupplyToCountryExcluded=j140 SupplyToTerritory=j397"
    ∷ "Supplier SupplierRole=j292 SupplierIdentifier SupplierName=j137"
    ∷ "SupplierIdentifier SupplierIDType=j345 IDValue=b244"
    ∷ "Price PriceType=x462 PriceQualifier=j261 PricePer=j239 PriceCondition PriceConstraint"
    ∷ "Price MinimumOrderQuantity=j263 PriceCoded PriceAmount=j151 UnpricedItemType=j192"
    ∷ "Price CurrencyCode=j152 CurrencyZone=x475 EpubLicense EpubLicenseWithDate"
    ∷ "Price PriceTypeCode=j148 ClassOfTrade=j149 PriceEffectiveFrom=j161"
    ∷ "Price PriceEffectiveUntil=j162 CountryCode=b251 CountryExcluded=j304"
    ∷ "Price TerritoryExcluded=j308 (j303)=j303 Territory PriceDate"
    ∷ "PriceCondition PriceConditionType=x463"
    ∷ "PriceConstraint PriceConstraintType=x529"
    ∷ "PriceDate PriceDateRole=x476 DateFormat=j260 Date=b306"
    ∷ [])
    ++ counted_alone_of
    ("Product PublishingDetail"
    ∷ "PublishingDetail SalesRights"
    ∷ "Price Discount DiscountCoded"
    ∷ [])

-- the same, and behind those what the terms of the shop ask of a Price besides
unfoldable pub terms_vocabulary : List Word
terms_vocabulary =
    desk_vocabulary
    ++ apart_of
    ("Price DiscountCoded Discount Tax"
    ∷ "DiscountCoded DiscountCodeType=j363 DiscountCodeTypeName=j378 DiscountCode=j364"
    ∷ "Discount DiscountType=x467 Quantity=x320 DiscountPercent=j267"
    ∷ "Tax TaxRateCode=x471 TaxRatePercent=x472"
    ∷ [])
